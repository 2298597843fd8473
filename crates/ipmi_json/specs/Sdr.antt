-- The object of a sensor data record with its reading. Each kind always has the same keys, and a value never changes its type,
-- except to null.
use Rattle.std.specs.Prelude.{◌≡◌, ℕ, ◌*◌, ◌/◌, ◌%◌, ℤ, Bool, ◌&&◌, if◌then◌else◌, Option, Some, None, List, [], ◌∷◌, ◌++◌, codes, map, slice_get}
use Rattle.json.specs.Json.{Json, boolean, null, string}
use Rattle.ipmi_text.specs.FieldText.{binary_text}
use Rattle.ipmi_text.specs.ReadingValue.{reading_value}
use Rattle.ipmi_text.specs.SensorTypes.{sensor_type_text_of}
use Rattle.ipmi_text.specs.Units.{unit_text_of}
use Rattle.ipmi_text.specs.declared.reading.Reading.{Reading}
use Rattle.ipmi_text.specs.declared.units.Units.{Units}
use Rattle.ipmi_records.specs.Prelude.{byte_at, event_only_sensor, factors_in, has_bit, has_thresholds, is_readable, locator_in, name_of, record_bytes, record_type, sensor_in, shown_of, states_of, status_of, threshold_in, units_in}
use Rattle.ipmi_records.specs.declared.column.KnownReading.{KnownReading}
use Rattle.ipmi_records.specs.declared.column.Shown.{Shown}
use Rattle.ipmi_records.specs.declared.entity.Entity.{Entity}
use Rattle.ipmi_records.specs.declared.locator.Locator.{Locator}
use Rattle.ipmi_records.specs.declared.sdr.SdrFault.{SdrFault}
use Rattle.ipmi_records.specs.declared.sdr.SdrView.{SdrView}
use Rattle.ipmi_records.specs.declared.sensor.Sensor.{Sensor}
use Rattle.ipmi_records.specs.declared.threshold.Threshold.{Threshold}
use Rattle.ipmi_events.specs.Entities.{entity_words}
use Rattle.ipmi_events.specs.States.{set_states, state_words}
use Rattle.ipmi_events.specs.Status.{status_in_words}
use Rattle.ipmi_events.specs.Reason.{sensor_reason}
use Rattle.ipmi_events.specs.Worst.{sensor_severity}
use Rattle.ipmi_json.specs.declared.object.Label.{Label}
use Rattle.ipmi_json.specs.Object.{integer, integer_or_null, IsDecimalOrNull, IsLineOfSome, Pair, text_or_null, text_unless_empty, texts}
use Rattle.ipmi_json.specs.Record.{head_members, raw_members, severity_value}

-- ---- every record

abbrev pub kind_word : SdrView → List ℕ
kind_word (SdrView.Full bytes) = codes "full"
kind_word (SdrView.Compact bytes) = codes "compact"
kind_word (SdrView.EventOnly bytes) = codes "event_only"
kind_word (SdrView.Generic bytes) = codes "generic_locator"
kind_word (SdrView.Fru bytes) = codes "fru_locator"
kind_word (SdrView.Controller bytes) = codes "mc_locator"
kind_word (SdrView.Other bytes) = codes "other"

-- a record of another type has no name; an empty name is null
abbrev pub name_members : Option (List ℕ) → List Pair
name_members None = []
name_members (Some name) = (codes "name", text_unless_empty name) ∷ []

-- ---- sensors

abbrev pub sensor_members : Sensor → List Pair
sensor_members sensor =
    (codes "owner_id", integer sensor.owner)
    ∷ (codes "owner_lun", integer sensor.lun)
    ∷ (codes "sensor_number", integer sensor.number)
    ∷ (codes "entity_id", integer sensor.entity.id)
    ∷ (codes "entity_name", string (entity_words sensor.entity.id))
    ∷ (codes "entity_instance", integer sensor.entity.instance)
    ∷ (codes "sensor_type", integer sensor.sensor_type)
    ∷ (codes "sensor_type_name", string (sensor_type_text_of sensor.sensor_type))
    ∷ (codes "event_type", integer sensor.event_type)
    ∷ []

-- ---- readings

-- the raw byte of a reading, if there is one
abbrev pub raw_shown : Shown → Option ℕ
raw_shown (Shown.Value reading) = Some reading.raw
raw_shown _ = None

-- the states, one bit for each (IPMI v2.0, table 35-15): with thresholds, bits 5:0 of the first byte; else bits 14:0 of both
abbrev pub states_in : Sensor → Reading → ℕ
states_in sensor reading =
    if has_thresholds sensor then reading.status % 64 else states_of reading

-- the states of a reading, if there is one
abbrev pub states_shown : Sensor → Shown → Option ℕ
states_shown sensor (Shown.Value reading) = Some (states_in sensor reading)
states_shown sensor _ = None

-- the words of the states that are set
abbrev pub texts_of_states : Sensor → ℕ → List (List ℕ)
texts_of_states sensor states =
    map (state_words sensor.event_type sensor.sensor_type) (set_states states)

-- the states in words, for a sensor without thresholds; a sensor with thresholds has a status in words
abbrev pub state_words_shown : Sensor → Shown → Json
state_words_shown sensor (Shown.Value reading) =
    if has_thresholds sensor then null else texts (texts_of_states sensor (states_of reading))
state_words_shown sensor _ = null

-- the value of the reading by the bytes of a full record; none if the sensor has no analog reading or is not linear
abbrev pub value_shown : List ℕ → Shown → Option ℤ
value_shown bytes (Shown.Value reading) = reading_value (factors_in bytes) reading.raw
value_shown bytes _ = None

-- a value and its unit, null without one
pub record AreValueMembers (value : Option ℤ) (units : Units) (ms : List Pair) : Type 0 where
  pub number : Json
  pub is_number : IsDecimalOrNull value number
  pub are : ms ≡
      (codes "reading", number)
      ∷ (codes "unit", text_unless_empty (unit_text_of units.units1 units.base units.modifier))
      ∷ []

-- the status with its direction, unless the reading was not captured
abbrev pub status_words : Sensor → Shown → List ℕ
status_words sensor Shown.NotCaptured = codes "not captured"
status_words sensor shown = status_in_words sensor shown

-- what else a sensor shows
abbrev pub shown_members : Sensor → Shown → List ℕ → List Pair
shown_members sensor shown status =
    (codes "reading_raw", integer_or_null (raw_shown shown))
    ∷ (codes "states", integer_or_null (states_shown sensor shown))
    ∷ (codes "state_words", state_words_shown sensor shown)
    ∷ (codes "status", string status)
    ∷ (codes "status_words", string (status_words sensor shown))
    ∷ (codes "severity", severity_value (sensor_severity sensor shown))
    ∷ (codes "severity_reason", text_or_null (sensor_reason sensor shown))
    ∷ []

-- ---- thresholds

-- the value of a threshold; none if the sensor has no thresholds, if this one is not readable, or if readings have no value
abbrev pub threshold_value : Threshold → List ℕ → Option ℤ
threshold_value threshold bytes =
    if has_thresholds (sensor_in bytes) && is_readable threshold bytes
    then reading_value (factors_in bytes) (threshold_in threshold bytes)
    else None

pub record AreThresholdMembers (bytes : List ℕ) (ms : List Pair) : Type 0 where
  pub upper_non_recoverable : Json
  pub upper_critical : Json
  pub upper_non_critical : Json
  pub lower_non_recoverable : Json
  pub lower_critical : Json
  pub lower_non_critical : Json
  pub is_upper_non_recoverable : IsDecimalOrNull (threshold_value Threshold.UpperNonRecoverable bytes) upper_non_recoverable
  pub is_upper_critical : IsDecimalOrNull (threshold_value Threshold.UpperCritical bytes) upper_critical
  pub is_upper_non_critical : IsDecimalOrNull (threshold_value Threshold.UpperNonCritical bytes) upper_non_critical
  pub is_lower_non_recoverable : IsDecimalOrNull (threshold_value Threshold.LowerNonRecoverable bytes) lower_non_recoverable
  pub is_lower_critical : IsDecimalOrNull (threshold_value Threshold.LowerCritical bytes) lower_critical
  pub is_lower_non_critical : IsDecimalOrNull (threshold_value Threshold.LowerNonCritical bytes) lower_non_critical
  pub are : ms ≡
      (codes "upper_non_recoverable", upper_non_recoverable)
      ∷ (codes "upper_critical", upper_critical)
      ∷ (codes "upper_non_critical", upper_non_critical)
      ∷ (codes "lower_non_recoverable", lower_non_recoverable)
      ∷ (codes "lower_critical", lower_critical)
      ∷ (codes "lower_non_critical", lower_non_critical)
      ∷ []

-- ---- locators (IPMI v2.0, tables 43-7 to 43-9)

abbrev pub entity_members : Entity → List Pair
entity_members entity =
    (codes "entity_id", integer entity.id)
    ∷ (codes "entity_name", string (entity_words entity.id))
    ∷ (codes "entity_instance", integer entity.instance)
    ∷ []

-- bits 7:1 of a byte are a slave address; bit 0 is reserved, or part of a channel number
abbrev pub slave_address : ℕ → ℕ
slave_address byte = byte / 2 * 2

-- byte 6 is the address of the controller through which a device is reached; byte 7 is the device's own
abbrev pub generic_members : List ℕ → List Pair
generic_members bytes =
    (codes "device_access_address", integer (slave_address (locator_in bytes).address))
    ∷ (codes "device_slave_address", integer (slave_address (byte_at 7 bytes)))
    ∷ entity_members (locator_in bytes).entity

-- byte 7 is the FRU device id of a logical device, and the slave address of another
abbrev pub fru_id : Bool → ℕ → Option ℕ
fru_id is_logical byte = if is_logical then Some byte else None

abbrev pub fru_address : Bool → ℕ → Option ℕ
fru_address is_logical byte = if is_logical then None else Some (slave_address byte)

-- bit 7 of byte 8 is set for a logical device; bits 4:3 are the LUN
abbrev pub fru_members : List ℕ → List Pair
fru_members bytes =
    (codes "device_access_address", integer (slave_address (locator_in bytes).address))
    ∷ (codes "fru_device_id", integer_or_null (fru_id (has_bit 7 (byte_at 8 bytes)) (byte_at 7 bytes)))
    ∷ (codes "device_slave_address", integer_or_null (fru_address (has_bit 7 (byte_at 8 bytes)) (byte_at 7 bytes)))
    ∷ (codes "is_logical", boolean (has_bit 7 (byte_at 8 bytes)))
    ∷ (codes "access_lun", integer (byte_at 8 bytes / 8 % 4))
    ∷ []

-- a FRU device
abbrev pub fru_locator_members : List ℕ → List Pair
fru_locator_members bytes = fru_members bytes ++ entity_members (locator_in bytes).entity

-- byte 6 is the controller's own address
abbrev pub controller_members : Locator → List Pair
controller_members locator =
    (codes "device_slave_address", integer (slave_address locator.address)) ∷ entity_members locator.entity

-- ---- records

-- a full record: its sensor, its reading with the status, and its thresholds
pub record AreFullMembers (bytes : List ℕ) (reading : KnownReading) (status : List ℕ)
    (ms : List Pair) : Type 0 where
  pub value : List Pair
  pub thresholds : List Pair
  pub are_value : AreValueMembers (value_shown bytes (shown_of (sensor_in bytes) reading)) (units_in bytes) value
  pub are_thresholds : AreThresholdMembers bytes thresholds
  pub are : ms ≡ ((sensor_members (sensor_in bytes) ++ value)
      ++ shown_members (sensor_in bytes) (shown_of (sensor_in bytes) reading) status) ++ thresholds

-- a compact record, which has no conversion of readings
pub record AreCompactMembers (bytes : List ℕ) (reading : KnownReading) (status : List ℕ)
    (ms : List Pair) : Type 0 where
  pub value : List Pair
  pub are_value : AreValueMembers None (units_in bytes) value
  pub are : ms ≡ (sensor_members (sensor_in bytes) ++ value)
      ++ shown_members (sensor_in bytes) (shown_of (sensor_in bytes) reading) status

-- the members by the kind of the record; only a full and a compact record have a reading
abbrev pub AreTold : SdrView → KnownReading → List Pair → Type 0
AreTold (SdrView.Full bytes) reading ms =
    AreFullMembers bytes reading (status_of (SdrView.Full bytes) reading) ms
AreTold (SdrView.Compact bytes) reading ms =
    AreCompactMembers bytes reading (status_of (SdrView.Compact bytes) reading) ms
AreTold (SdrView.EventOnly bytes) reading ms = ms ≡ sensor_members (event_only_sensor bytes)
AreTold (SdrView.Generic bytes) reading ms = ms ≡ generic_members bytes
AreTold (SdrView.Fru bytes) reading ms = ms ≡ fru_locator_members bytes
AreTold (SdrView.Controller bytes) reading ms = ms ≡ controller_members (locator_in bytes)
AreTold (SdrView.Other bytes) reading ms = ms ≡ []

-- the members of a record, with its id
pub record AreRecordMembers (id : ℕ) (view : SdrView) (reading : KnownReading)
    (ms : List Pair) : Type 0 where
  pub told : List Pair
  pub are_told : AreTold view reading told
  pub are : ms ≡
      ((head_members (codes "sdr_record") id (record_type (record_bytes view)) (kind_word view)
      ++ name_members (name_of view)) ++ told) ++ raw_members (record_bytes view)

-- the line of a record, with its id
abbrev pub IsSdrLine : ℕ → SdrView → KnownReading → List Label → List ℕ → Type 0
IsSdrLine id view reading labels text =
    IsLineOfSome (AreRecordMembers id view reading) labels text

-- ---- a record with a fault

abbrev pub fault_word : SdrFault → List ℕ
fault_word SdrFault.Short = codes "short"
fault_word SdrFault.Length = codes "wrong_length"
fault_word SdrFault.BodyShort = codes "body_too_short"

-- the record type is byte 4, and may be missing
abbrev pub fault_members : ℕ → SdrFault → List ℕ → List Pair
fault_members id fault bytes =
    (codes "object", string (codes "sdr_record"))
    ∷ (codes "record_id", integer id)
    ∷ (codes "record_type", integer_or_null (slice_get bytes 3))
    ∷ (codes "kind", string (codes "faulty"))
    ∷ (codes "fault", string (fault_word fault))
    ∷ (codes "raw", string (binary_text bytes))
    ∷ []

-- ---- a raw record

-- the bytes, with the id of the next record
abbrev pub bytes_members : ℕ → ℕ → List ℕ → List Pair
bytes_members id next bytes =
    (codes "object", string (codes "sdr_raw"))
    ∷ (codes "record_id", integer id)
    ∷ (codes "next_record_id", integer next)
    ∷ (codes "raw", string (binary_text bytes))
    ∷ []
