-- Re-exports the definitions of lower crates that this crate uses. Declares nothing.
pub use Rattle.ipmi_text.specs.Appended.{Appends}
pub use Rattle.ipmi_text.specs.Bytes.{AreBytes}
pub use Rattle.ipmi_text.specs.Decimal.{IsDecimalOf}
pub use Rattle.ipmi_text.specs.Events.{event_text_of}
pub use Rattle.ipmi_text.specs.FieldText.{binary_text, sdr_text_of}
pub use Rattle.ipmi_text.specs.Hex.{byte_h, hex_byte, hex_word, word_h}
pub use Rattle.ipmi_text.specs.Laws.{DecimalExists, DecimalIsUnique, UtcTextExists, UtcTextIsUnique}
pub use Rattle.ipmi_text.specs.Lines.{labelled}
pub use Rattle.ipmi_text.specs.ReadingValue.{is_available, IsTwosComplement, reading_value, SensorFactors}
pub use Rattle.ipmi_text.specs.SdrHeader.{sdr_len}
pub use Rattle.ipmi_text.specs.SensorTypes.{sensor_type_text_of}
pub use Rattle.ipmi_text.specs.Times.{IsUtcTextOf}
pub use Rattle.ipmi_text.specs.Units.{after_space, unit_text_of}
pub use Rattle.ipmi_text.specs.declared.reading.Reading.{Reading}
pub use Rattle.ipmi_text.specs.declared.units.Units.{Units}
