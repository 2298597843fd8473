-- Re-exports the definitions of this crate that its code and proofs use. Declares nothing.
pub use Rattle.ipmi_records.specs.Bytes.{byte_at, has_bit, number_at, padded_to, signed}
pub use Rattle.ipmi_records.specs.Columns.{fru_column, has_thresholds, IsNumberText, IsRawText, IsRawValue, IsReadingColumn, IsSensorColumn, IsValueText, known, raw_byte_text, sensor_status, shown_of, shown_reading, states_of, states_text, status_of, threshold_status, type_text, unit_text_in}
pub use Rattle.ipmi_records.specs.Info.{info_in, IsInfoBlock}
pub use Rattle.ipmi_records.specs.Laws.{ExtendedLineIsUnique, ReadingColumnExists, ReadingColumnIsUnique, SdrBlockExists, SdrBlockIsUnique, SdrLineExists, SdrLineIsUnique, ThresholdTextExists, ThresholdTextIsUnique, SelBlockIsUnique, SelLineIsUnique}
pub use Rattle.ipmi_records.specs.Sdr.{fru_in, fru_of, id_field_at, id_field_of, id_string_of, key_of, least_len, locator_of, name_of, reading_of, record_bytes, record_type, sdr_view_by_type, sdr_view_of, sensor_of, sharing_of}
pub use Rattle.ipmi_records.specs.SdrText.{all_thresholds, AreReadingLines, AreThresholdTexts, AreValueLines, entity_column, entity_or_dash, entity_text, fault_line, fault_text, head_lines, IsExtendedLine, IsSdrBlock, IsSdrLine, IsThresholdText, kind_text, locator_lines, name_line, number_text, printed_name, sensor_columns, sensor_lines, threshold_name, thresholds_of}
pub use Rattle.ipmi_records.specs.Sel.{entry_bytes, entry_type, event_data, event_type, generator_id, is_deasserted, manufacturer_id, oem_data, data_after_type, revision, sel_view_of, sensor_number, sensor_type, time_stamp}
pub use Rattle.ipmi_records.specs.SelText.{AreEventLines, AreFieldLines, AreOemLines, direction_text, IsEventLine, IsOemLine, IsSelBlock, IsSelLine, manufacturer_text, numbered_sensor, words_of_event}
pub use Rattle.ipmi_records.specs.Sensor.{analog_format, entity_in, event_only_sensor, exponent_k1, exponent_k2, factor_b, factor_m, factors_in, is_readable, linearization, locator_in, modifier_of, sensor_by, sensor_in, sharing_at, threshold_bit, threshold_in, threshold_place, units_in}
pub use Rattle.ipmi_records.specs.declared.column.KnownReading.{KnownReading}
pub use Rattle.ipmi_records.specs.declared.column.Shown.{Shown}
pub use Rattle.ipmi_records.specs.declared.sdr.SdrView.{SdrView}
pub use Rattle.ipmi_records.specs.declared.sel.SelView.{SelView}
pub use Rattle.ipmi_records.specs.declared.sharing.Modifier.{Modifier}
pub use Rattle.ipmi_records.specs.declared.sharing.Sharing.{Sharing}
pub use Rattle.ipmi_records.specs.declared.threshold.Threshold.{Threshold}
