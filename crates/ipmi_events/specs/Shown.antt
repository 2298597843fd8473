-- The reading column of a sensor in words (the project's own).
use Rattle.std.specs.Prelude.{◌≡◌, ◌==◌, if◌then◌else◌, Option, Some, None, List, ℕ, codes}
use Rattle.ipmi_events.specs.Below.{IsReadingColumn, KnownReading, SdrView, Sensor, Shown, analog_format, has_thresholds, sensor_in, shown_of, states_of}
use Rattle.ipmi_events.specs.States.{states_in_words}

abbrev pub unless_thresholds : Sensor → Option Sensor
unless_thresholds sensor = if has_thresholds sensor then None else Some sensor

-- a discrete sensor whose record defines no conversion of readings: a compact record never defines
-- one; a full record does, unless its analog format is 3
abbrev pub discrete_sensor : SdrView → Option Sensor
discrete_sensor (SdrView.Full bytes) =
    if analog_format bytes == 3 then unless_thresholds (sensor_in bytes) else None
discrete_sensor (SdrView.Compact bytes) = unless_thresholds (sensor_in bytes)
discrete_sensor _ = None

-- its states, if it has a reading
abbrev pub discrete_column : Sensor → Shown → List ℕ
discrete_column sensor Shown.OtherOwner = codes "other owner"
discrete_column sensor Shown.NotCaptured = codes "not captured"
discrete_column sensor Shown.NoReading = codes "no reading"
discrete_column sensor (Shown.Value reading) = states_in_words sensor (states_of reading)

abbrev pub IsShownBy : Option Sensor → SdrView → KnownReading → List ℕ → Type 0
IsShownBy None view reading text = IsReadingColumn view reading text
IsShownBy (Some sensor) view reading text =
    text ≡ discrete_column sensor (shown_of sensor reading)

-- the states of such a sensor; for any other record, the reading column
abbrev pub IsReadingInWords : SdrView → KnownReading → List ℕ → Type 0
IsReadingInWords view reading text = IsShownBy (discrete_sensor view) view reading text
