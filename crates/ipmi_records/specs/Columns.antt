-- The reading column and the status of a line (the project's own). A reading is the answer of Get
-- Sensor Reading (IPMI v2.0, section 35.14).
use Rattle.std.specs.Prelude.{◌≡◌, ℕ, ◌+◌, ◌*◌, ◌%◌, ◌==◌, ◌&&◌, ◌||◌, not, Bool, if◌then◌else◌, ℤ, Option, Some, None, List, ◌++◌, codes, decimal}
use Rattle.ipmi_records.specs.Below.{IsDecimalOf, byte_h, hex_byte, hex_word, is_available, reading_value, after_space, unit_text_of, Reading}
use Rattle.ipmi_records.specs.declared.column.KnownReading.{KnownReading}
use Rattle.ipmi_records.specs.declared.column.Shown.{Shown}
use Rattle.ipmi_records.specs.declared.sdr.SdrView.{SdrView}
use Rattle.ipmi_records.specs.declared.sensor.Sensor.{Sensor}
use Rattle.ipmi_records.specs.Bytes.{has_bit}
use Rattle.ipmi_records.specs.Sdr.{fru_in, record_type}
use Rattle.ipmi_records.specs.Sensor.{analog_format, factors_in, locator_in, sensor_in, units_in}

-- ---- what is shown of a sensor

-- the reading that a controller has, or that it has none
abbrev pub known : Option Reading → KnownReading
known None = KnownReading.Absent
known (Some reading) = KnownReading.Present reading

abbrev pub shown_reading : KnownReading → Shown
shown_reading KnownReading.NotCaptured = Shown.NotCaptured
shown_reading KnownReading.Absent = Shown.NoReading
shown_reading (KnownReading.Present reading) = if is_available reading then Shown.Value reading else Shown.NoReading

-- the first that applies: the owner is not the controller itself (20h); the reading was not captured; there is none; there
-- is one
abbrev pub shown_of : Sensor → KnownReading → Shown
shown_of sensor reading =
    if sensor.owner == 0x20 then shown_reading reading else Shown.OtherOwner

-- ---- values

abbrev pub unit_text_in : List ℕ → List ℕ
unit_text_in bytes = unit_text_of (units_in bytes).units1 (units_in bytes).base
    (units_in bytes).modifier

-- the decimal of a value and its unit
pub record IsQuantity (value : ℤ) (unit text : List ℕ) : Type 0 where
  pub number : List ℕ
  pub is_decimal : IsDecimalOf value number
  pub text_is : text ≡ number ++ after_space unit

-- a byte that has no value
abbrev pub raw_byte_text : ℕ → List ℕ
raw_byte_text raw = codes "raw 0x" ++ hex_byte raw

abbrev pub IsValueText : Option ℤ → List ℕ → ℕ → List ℕ → Type 0
IsValueText None unit raw text = text ≡ raw_byte_text raw
IsValueText (Some value) unit raw text = IsQuantity value unit text

-- a raw byte of a full record's sensor: its value by the record's factors, with its unit, or the
-- byte itself if the sensor has no analog reading or is not linear
abbrev pub IsRawText : List ℕ → ℕ → List ℕ → Type 0
IsRawText bytes raw text =
    IsValueText (reading_value (factors_in bytes) raw) (unit_text_in bytes) raw text

-- the same without the unit
abbrev pub IsNumberText : Option ℤ → ℕ → List ℕ → Type 0
IsNumberText None raw text = text ≡ raw_byte_text raw
IsNumberText (Some value) raw text = IsDecimalOf value text

abbrev pub IsRawValue : List ℕ → ℕ → List ℕ → Type 0
IsRawValue bytes raw text = IsNumberText (reading_value (factors_in bytes) raw) raw text

-- the 15 states of a discrete sensor, one bit per state; states 14:8 are the high byte
abbrev pub states_of : Reading → ℕ
states_of reading = 256 * (reading.more % 128) + reading.status

abbrev pub states_text : Reading → List ℕ
states_text reading = codes "states 0x" ++ hex_word (states_of reading)

-- ---- the reading column

-- for a sensor: its value by the bytes of its record, or its states if `analog` is None
abbrev pub IsSensorColumn : Shown → Option (List ℕ) → List ℕ → Type 0
IsSensorColumn Shown.OtherOwner analog text = text ≡ codes "other owner"
IsSensorColumn Shown.NotCaptured analog text = text ≡ codes "not captured"
IsSensorColumn Shown.NoReading analog text = text ≡ codes "no reading"
IsSensorColumn (Shown.Value reading) None text = text ≡ states_text reading
IsSensorColumn (Shown.Value reading) (Some bytes) text = IsRawText bytes reading.raw text

-- for a FRU locator: the device, or `elsewhere` if its inventory is not read
abbrev pub fru_column : Option ℕ → List ℕ
fru_column None = codes "elsewhere"
fru_column (Some fru) = codes "FRU " ++ decimal fru

abbrev pub type_text : ℕ → List ℕ
type_text type = codes "record type 0x" ++ hex_byte type

-- a full record defines a conversion of readings, unless its analog format is 3
abbrev pub IsReadingColumn : SdrView → KnownReading → List ℕ → Type 0
IsReadingColumn (SdrView.Full bytes) reading text =
    IsSensorColumn (shown_of (sensor_in bytes) reading)
    (if analog_format bytes == 3 then None else Some bytes) text
IsReadingColumn (SdrView.Compact bytes) reading text =
    IsSensorColumn (shown_of (sensor_in bytes) reading) None text
IsReadingColumn (SdrView.EventOnly bytes) reading text = text ≡ codes "event only"
IsReadingColumn (SdrView.Generic bytes) reading text = text ≡ codes "generic device"
IsReadingColumn (SdrView.Fru bytes) reading text = text ≡ fru_column (fru_in bytes)
IsReadingColumn (SdrView.Controller bytes) reading text =
    text ≡ codes "controller " ++ byte_h (locator_in bytes).address
IsReadingColumn (SdrView.Other bytes) reading text = text ≡ type_text (record_type bytes)

-- ---- the status

-- for a threshold sensor, the worst threshold that is passed, upper or lower: bits 5 and 2 are the
-- non-recoverable thresholds, 4 and 1 the critical, 3 and 0 the non-critical
abbrev pub threshold_status : ℕ → List ℕ
threshold_status status =
    if has_bit 5 status || has_bit 2 status then codes "nr"
    else if has_bit 4 status || has_bit 1 status then codes "cr"
    else if has_bit 3 status || has_bit 0 status then codes "nc"
    else codes "ok"

-- only sensors of event/reading type 01h have thresholds
abbrev pub has_thresholds : Sensor → Bool
has_thresholds sensor = sensor.event_type == 0x01

abbrev pub sensor_status : Sensor → Shown → List ℕ
sensor_status sensor Shown.OtherOwner = codes "na"
sensor_status sensor Shown.NotCaptured = codes "ns"
sensor_status sensor Shown.NoReading = codes "ns"
sensor_status sensor (Shown.Value reading) =
    if has_thresholds sensor then threshold_status reading.status else codes "ok"

abbrev pub status_of : SdrView → KnownReading → List ℕ
status_of (SdrView.Full bytes) reading =
    sensor_status (sensor_in bytes) (shown_of (sensor_in bytes) reading)
status_of (SdrView.Compact bytes) reading =
    sensor_status (sensor_in bytes) (shown_of (sensor_in bytes) reading)
status_of _ reading = codes "na"
