-- Re-exports the definitions of lower crates that the texts of sensors use. Declares nothing.
pub use Rattle.ipmi_text.specs.Appended.{Appends}
pub use Rattle.ipmi_text.specs.Hex.{byte_h, hex_byte, word_h}
pub use Rattle.ipmi_text.specs.Laws.{DecimalExists, DecimalIsUnique}
pub use Rattle.ipmi_text.specs.Lines.{labelled}
pub use Rattle.ipmi_text.specs.ReadingValue.{reading_value}
pub use Rattle.ipmi_text.specs.SensorTypes.{sensor_type_text_of}
pub use Rattle.ipmi_text.specs.declared.reading.Reading.{Reading}
pub use Rattle.ipmi_records.specs.Bytes.{columns_line, labelled_lines}
pub use Rattle.ipmi_records.specs.Prelude.{AreThresholdTexts, IsNumberText, IsRawValue, IsReadingColumn, IsSdrBlock, IsSdrLine, ReadingColumnExists, ReadingColumnIsUnique, SdrBlockExists, SdrBlockIsUnique, SdrLineExists, SdrLineIsUnique, ThresholdTextExists, ThresholdTextIsUnique, analog_format, factors_in, has_bit, has_thresholds, is_readable, padded_to, printed_name, sensor_in, sharing_of, shown_of, states_of, threshold_bit, threshold_in, thresholds_of}
pub use Rattle.ipmi_records.specs.declared.column.KnownReading.{KnownReading}
pub use Rattle.ipmi_records.specs.declared.column.Shown.{Shown}
pub use Rattle.ipmi_records.specs.declared.sdr.SdrView.{SdrView}
pub use Rattle.ipmi_records.specs.declared.sensor.Sensor.{Sensor}
pub use Rattle.ipmi_records.specs.declared.sharing.Sharing.{Sharing}
pub use Rattle.ipmi_records.specs.declared.threshold.Threshold.{Threshold}
