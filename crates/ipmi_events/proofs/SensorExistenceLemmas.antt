-- A record has a line and a block of its sensor.
use Rattle.std.proofs.Common.{ℕ, Bool, true, false, Option, None, Some, ℤ, List, [], ◌∷◌, refl}
use Rattle.ipmi_events.specs.Below.{DecimalExists, IsNumberText, KnownReading, ReadingColumnExists, SdrBlockExists, SdrLineExists, SdrView, Sensor, Threshold, ThresholdTextExists, factors_in, is_readable, reading_value, sensor_in, threshold_in, thresholds_of}
use Rattle.ipmi_events.specs.SensorBlocks.{AreShownLines, AreThresholdLines, IsBlockOfSensor, IsSensorBlock}
use Rattle.ipmi_events.specs.SensorLines.{AreThresholdColumns, IsLineOfSensor, IsSensorLine, IsThresholdColumn, IsValueOrDash, from_lowest, with_thresholds}
use Rattle.ipmi_events.specs.Shown.{IsReadingInWords, IsShownBy, discrete_sensor}

module _ (column : ReadingColumnExists) where
  shown_text : (sensor : Option Sensor) (view : SdrView) (reading : KnownReading)
      → (text : List ℕ) × IsShownBy sensor view reading text
  shown_text None view reading = column view reading
  shown_text (Some sensor) view reading = (_, refl)

  reading_text : (view : SdrView) (reading : KnownReading)
      → (text : List ℕ) × IsReadingInWords view reading text
  reading_text view reading = shown_text (discrete_sensor view) view reading

  module _ (decimal : DecimalExists) (line : SdrLineExists) where
    number_text : (value : Option ℤ) (raw : ℕ) → (text : List ℕ) × IsNumberText value raw text
    number_text None raw = (_, refl)
    number_text (Some value) raw = decimal value

    value_text : (readable : Bool) (bytes : List ℕ) (threshold : Threshold)
        → (text : List ℕ) × IsValueOrDash readable bytes threshold text
    value_text false bytes threshold = (_, refl)
    value_text true bytes threshold = number_text (reading_value (factors_in bytes) (threshold_in threshold bytes)) (threshold_in threshold bytes)

    threshold_column : (told : Option (List ℕ)) (threshold : Threshold)
        → (text : List ℕ) × IsThresholdColumn told threshold text
    threshold_column None threshold = (_, refl)
    threshold_column (Some bytes) threshold = value_text (is_readable threshold bytes) bytes threshold

    threshold_columns : (told : Option (List ℕ)) (thresholds : List Threshold)
        → (columns : List (List ℕ)) × AreThresholdColumns told thresholds columns
    threshold_columns told [] = (_, refl)
    threshold_columns told (threshold ∷ thresholds) =
        let first = threshold_column told threshold in
        let more = threshold_columns told thresholds in
        (first.0 ∷ more.0, (first.0, more.0, (first.1, (more.1, refl))))

    line_of_sensor : (view : SdrView) (sensor : Sensor) (reading : KnownReading)
        → (text : List ℕ) × IsLineOfSensor view sensor reading text
    line_of_sensor view sensor reading =
        let shown = reading_text view reading in
        let thresholds = threshold_columns (with_thresholds view) from_lowest in
        (_, record { column = shown.0; thresholds = thresholds.0; is_column = shown.1; are_thresholds = thresholds.1; text_is = refl })

    pub sensor_line : (view : SdrView) (reading : KnownReading)
        → (text : List ℕ) × IsSensorLine view reading text
    sensor_line (SdrView.Full bytes) reading = line_of_sensor (SdrView.Full bytes) (sensor_in bytes) reading
    sensor_line (SdrView.Compact bytes) reading = line_of_sensor (SdrView.Compact bytes) (sensor_in bytes) reading
    sensor_line view reading = line view reading

  module _ (texts : ThresholdTextExists) (block : SdrBlockExists) where
    shown_lines : (view : SdrView) (sensor : Sensor) (reading : KnownReading)
        → (text : List ℕ) × AreShownLines view sensor reading text
    shown_lines view sensor reading = let shown = reading_text view reading in (_, record { column = shown.0; is_column = shown.1; text_is = refl })

    threshold_lines : (view : SdrView) (sensor : Sensor)
        → (text : List ℕ) × AreThresholdLines view sensor text
    threshold_lines (SdrView.Full bytes) sensor = texts bytes (thresholds_of sensor)
    threshold_lines _ sensor = (_, refl)

    block_of_sensor : (id : ℕ) (view : SdrView) (sensor : Sensor) (reading : KnownReading)
        → (text : List ℕ) × IsBlockOfSensor id view sensor reading text
    block_of_sensor id view sensor reading =
        let shown = shown_lines view sensor reading in
        let thresholds = threshold_lines view sensor in
        (_, record { shown = shown.0; thresholds = thresholds.0; are_shown = shown.1; are_thresholds = thresholds.1; text_is = refl })

    pub sensor_block : (id : ℕ) (view : SdrView) (reading : KnownReading)
        → (text : List ℕ) × IsSensorBlock id view reading text
    sensor_block id (SdrView.Full bytes) reading = block_of_sensor id (SdrView.Full bytes) (sensor_in bytes) reading
    sensor_block id (SdrView.Compact bytes) reading = block_of_sensor id (SdrView.Compact bytes) (sensor_in bytes) reading
    sensor_block id view reading = block id view reading
