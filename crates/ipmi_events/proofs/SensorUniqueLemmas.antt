-- A record has at most one line and one block of its sensor.
use Rattle.std.proofs.Common.{◌≡◌, ◌∙◌, ℕ, Bool, true, false, Option, None, Some, ℤ, List, [], ◌∷◌, sym}
use Rattle.ipmi_events.specs.Below.{DecimalIsUnique, IsNumberText, KnownReading, ReadingColumnIsUnique, SdrBlockIsUnique, SdrLineIsUnique, SdrView, Sensor, Threshold, ThresholdTextIsUnique, factors_in, is_readable, reading_value, sensor_in, threshold_in, thresholds_of}
use Rattle.ipmi_events.specs.SensorBlocks.{AreShownLines, AreThresholdLines, IsBlockOfSensor, IsSensorBlock}
use Rattle.ipmi_events.specs.SensorLines.{AreThresholdColumns, IsLineOfSensor, IsSensorLine, IsThresholdColumn, IsValueOrDash, from_lowest, with_thresholds}
use Rattle.ipmi_events.specs.Shown.{IsReadingInWords, IsShownBy, discrete_sensor}

module _ (one_column : ReadingColumnIsUnique) where
  one_shown : (sensor : Option Sensor) (view : SdrView) (reading : KnownReading) (text other : List ℕ)
      → IsShownBy sensor view reading text → IsShownBy sensor view reading other → text ≡ other
  one_shown None view reading text other h k = one_column view reading text other h k
  one_shown (Some sensor) view reading text other h k = h ∙ sym k

  one_reading : (view : SdrView) (reading : KnownReading) (text other : List ℕ)
      → IsReadingInWords view reading text → IsReadingInWords view reading other → text ≡ other
  one_reading view reading = one_shown (discrete_sensor view) view reading

  module _ (one_decimal : DecimalIsUnique) (one_line : SdrLineIsUnique) where
    one_number : (value : Option ℤ) (raw : ℕ) (text other : List ℕ) → IsNumberText value raw text
        → IsNumberText value raw other → text ≡ other
    one_number None raw text other h k = h ∙ sym k
    one_number (Some value) raw text other h k = one_decimal value text other h k

    one_value : (readable : Bool) (bytes : List ℕ) (threshold : Threshold) (text other : List ℕ)
        → IsValueOrDash readable bytes threshold text → IsValueOrDash readable bytes threshold other
        → text ≡ other
    one_value false bytes threshold text other h k = h ∙ sym k
    one_value true bytes threshold text other h k = one_number (reading_value (factors_in bytes) (threshold_in threshold bytes)) (threshold_in threshold bytes) text other h k

    one_threshold : (told : Option (List ℕ)) (threshold : Threshold) (text other : List ℕ)
        → IsThresholdColumn told threshold text → IsThresholdColumn told threshold other
        → text ≡ other
    one_threshold None threshold text other h k = h ∙ sym k
    one_threshold (Some bytes) threshold text other h k = one_value (is_readable threshold bytes) bytes threshold text other h k

    one_list : (told : Option (List ℕ)) (thresholds : List Threshold) (columns others : List (List ℕ))
        → AreThresholdColumns told thresholds columns → AreThresholdColumns told thresholds others
        → columns ≡ others
    one_list told [] columns others h k = h ∙ sym k
    one_list told (threshold ∷ thresholds) columns others h k =
        h.2.1.1 ∙ rw (one_threshold told threshold h.0 k.0 h.2.0 k.2.0, one_list told thresholds h.1 k.1 h.2.1.0 k.2.1.0) (sym k.2.1.1)

    one_of_sensor : (view : SdrView) (sensor : Sensor) (reading : KnownReading) (text other : List ℕ)
        → IsLineOfSensor view sensor reading text → IsLineOfSensor view sensor reading other
        → text ≡ other
    one_of_sensor view sensor reading text other h k =
        h.text_is ∙ rw (one_reading view reading h.column k.column h.is_column k.is_column, one_list (with_thresholds view) from_lowest h.thresholds k.thresholds h.are_thresholds k.are_thresholds) (sym k.text_is)

    pub one_sensor_line : (view : SdrView) (reading : KnownReading) (text other : List ℕ)
        → IsSensorLine view reading text → IsSensorLine view reading other → text ≡ other
    one_sensor_line (SdrView.Full bytes) reading text other h k = one_of_sensor (SdrView.Full bytes) (sensor_in bytes) reading text other h k
    one_sensor_line (SdrView.Compact bytes) reading text other h k = one_of_sensor (SdrView.Compact bytes) (sensor_in bytes) reading text other h k
    one_sensor_line view reading text other h k = one_line view reading text other h k

  module _ (one_text : ThresholdTextIsUnique) (one_block : SdrBlockIsUnique) where
    one_shown_text : (view : SdrView) (sensor : Sensor) (reading : KnownReading) (text other : List ℕ)
        → AreShownLines view sensor reading text → AreShownLines view sensor reading other
        → text ≡ other
    one_shown_text view sensor reading text other h k =
        h.text_is ∙ rw (one_reading view reading h.column k.column h.is_column k.is_column) (sym k.text_is)

    one_threshold_text : (view : SdrView) (sensor : Sensor) (text other : List ℕ)
        → AreThresholdLines view sensor text → AreThresholdLines view sensor other → text ≡ other
    one_threshold_text (SdrView.Full bytes) sensor text other h k = one_text bytes (thresholds_of sensor) text other h k
    one_threshold_text _ sensor text other h k = h ∙ sym k

    block_of_sensor : (id : ℕ) (view : SdrView) (sensor : Sensor) (reading : KnownReading) (text other : List ℕ)
        → IsBlockOfSensor id view sensor reading text → IsBlockOfSensor id view sensor reading other
        → text ≡ other
    block_of_sensor id view sensor reading text other h k =
        h.text_is ∙ rw (one_shown_text view sensor reading h.shown k.shown h.are_shown k.are_shown, one_threshold_text view sensor h.thresholds k.thresholds h.are_thresholds k.are_thresholds) (sym k.text_is)

    pub one_sensor_block : (id : ℕ) (view : SdrView) (reading : KnownReading) (text other : List ℕ)
        → IsSensorBlock id view reading text → IsSensorBlock id view reading other → text ≡ other
    one_sensor_block id (SdrView.Full bytes) reading text other h k = block_of_sensor id (SdrView.Full bytes) (sensor_in bytes) reading text other h k
    one_sensor_block id (SdrView.Compact bytes) reading text other h k = block_of_sensor id (SdrView.Compact bytes) (sensor_in bytes) reading text other h k
    one_sensor_block id view reading text other h k = one_block id view reading text other h k
