-- A record, an entry and an info have a text of each form.
use Rattle.std.proofs.Common.{ℕ, Bool, true, false, Option, None, Some, ℤ, List, [], ◌∷◌, ◌++◌, ◌==◌, if◌then◌else◌, refl}
use Rattle.ipmi_records.specs.Below.{reading_value, DecimalExists, UtcTextExists}
use Rattle.ipmi_records.specs.Prelude.{KnownReading, Shown, SdrView, SelView, Threshold, IsRawText, IsReadingColumn, IsSensorColumn, IsValueText, analog_format, shown_of, unit_text_in, IsInfoBlock, AreReadingLines, AreThresholdTexts, AreValueLines, IsExtendedLine, IsSdrBlock, IsSdrLine, IsThresholdText, thresholds_of, AreFieldLines, IsSelBlock, IsSelLine, factors_in, is_readable, sensor_in, threshold_in, time_stamp, number_at}

-- ---- sensor data records

module _ (decimal : DecimalExists) where
  value_text : (value : Option ℤ) (unit : List ℕ) (raw : ℕ)
      → (text : List ℕ) × IsValueText value unit raw text
  value_text None unit raw = (_, refl)
  value_text (Some value) unit raw = let number = decimal value in (_, record { number = number.0; is_decimal = number.1; text_is = refl })

  raw_text : (bytes : List ℕ) (raw : ℕ) → (text : List ℕ) × IsRawText bytes raw text
  raw_text bytes raw = value_text (reading_value (factors_in bytes) raw) (unit_text_in bytes) raw

  sensor_column : (s : Shown) (analog : Option (List ℕ))
      → (text : List ℕ) × IsSensorColumn s analog text
  sensor_column (Shown.Value reading) (Some bytes) = raw_text bytes reading.raw
  sensor_column _ _ = (_, refl)

  pub column_of : (view : SdrView) (reading : KnownReading)
      → (text : List ℕ) × IsReadingColumn view reading text
  column_of (SdrView.Full bytes) reading = sensor_column (shown_of (sensor_in bytes) reading) (if analog_format bytes == 3 then None else Some bytes)
  column_of (SdrView.Compact bytes) reading = sensor_column (shown_of (sensor_in bytes) reading) None
  column_of _ reading = (_, refl)

  pub sdr_line : (view : SdrView) (reading : KnownReading)
      → (text : List ℕ) × IsSdrLine view reading text
  sdr_line view reading = let column = column_of view reading in (_, record { column = column.0; is_column = column.1; text_is = refl })

  pub extended_line : (view : SdrView) (reading : KnownReading)
      → (text : List ℕ) × IsExtendedLine view reading text
  extended_line view reading = let column = column_of view reading in (_, record { column = column.0; is_column = column.1; text_is = refl })

  reading_lines : (view : SdrView) (reading : KnownReading)
      → (text : List ℕ) × AreReadingLines view reading text
  reading_lines view reading = let column = column_of view reading in (_, record { column = column.0; is_column = column.1; text_is = refl })

  threshold_text : (readable : Bool) (bytes : List ℕ) (threshold : Threshold)
      → (text : List ℕ) × IsThresholdText readable bytes threshold text
  threshold_text false bytes threshold = (_, refl)
  threshold_text true bytes threshold = let value = raw_text bytes (threshold_in threshold bytes) in (
    _,
    record {
      value = value.0;
      is_value = value.1;
      text_is = refl;
    },
  )

  pub threshold_texts : (bytes : List ℕ) (thresholds : List Threshold)
      → (text : List ℕ) × AreThresholdTexts bytes thresholds text
  threshold_texts bytes [] = (_, refl)
  threshold_texts bytes (threshold ∷ thresholds) =
      let line = threshold_text (is_readable threshold bytes) bytes threshold in
      let more = threshold_texts bytes thresholds in
      (line.0 ++ more.0, (line.0, more.0, (line.1, (more.1, refl))))

  value_lines : (view : SdrView) (reading : KnownReading)
      → (text : List ℕ) × AreValueLines view reading text
  value_lines (SdrView.Full bytes) reading =
      let columns = reading_lines (SdrView.Full bytes) reading in
      let thresholds = threshold_texts bytes (thresholds_of (sensor_in bytes)) in
      (_, record { columns = columns.0; thresholds = thresholds.0; are_columns = columns.1; are_thresholds = thresholds.1; text_is = refl })
  value_lines (SdrView.Compact bytes) reading = reading_lines (SdrView.Compact bytes) reading
  value_lines _ reading = (_, refl)

  pub sdr_block : (id : ℕ) (view : SdrView) (reading : KnownReading)
      → (text : List ℕ) × IsSdrBlock id view reading text
  sdr_block id view reading = let values = value_lines view reading in (_, record { values = values.0; are_values = values.1; text_is = refl })

-- ---- the event log and infos

module _ (utc_text : UtcTextExists) where
  pub sel_line : (id : ℕ) (view : SelView) → (text : List ℕ) × IsSelLine id view text
  sel_line id (SelView.Event bytes) = let time = utc_text (time_stamp bytes) in (_, record { time = time.0; is_time = time.1; text_is = refl })
  sel_line id (SelView.OemTimed bytes) = let time = utc_text (time_stamp bytes) in (_, record { time = time.0; is_time = time.1; text_is = refl })
  sel_line id _ = (_, refl)

  field_lines : (view : SelView) → (text : List ℕ) × AreFieldLines view text
  field_lines (SelView.Event bytes) = let time = utc_text (time_stamp bytes) in (_, record { time = time.0; is_time = time.1; text_is = refl })
  field_lines (SelView.OemTimed bytes) = let time = utc_text (time_stamp bytes) in (_, record { time = time.0; is_time = time.1; text_is = refl })
  field_lines _ = (_, refl)

  pub sel_block : (id : ℕ) (view : SelView) → (text : List ℕ) × IsSelBlock id view text
  sel_block id view = let fields = field_lines view in (_, record { fields = fields.0; are_fields = fields.1; text_is = refl })

  pub info_block : (bytes : List ℕ) → (text : List ℕ) × IsInfoBlock bytes text
  info_block bytes =
      let addition = utc_text (number_at 6 4 bytes) in
      let erase = utc_text (number_at 10 4 bytes) in
      (_, record { addition = addition.0; erase = erase.0; is_addition = addition.1; is_erase = erase.1; text_is = refl })
