-- Where the fields of sensors and device locators are in a sensor data record (IPMI v2.0, section 43).
use Rattle.std.specs.Prelude.{ℕ, ◌+◌, ◌*◌, ◌/◌, ◌%◌, ◌==◌, if◌then◌else◌, Bool, ℤ, List}
use Rattle.ipmi_records.specs.Below.{SensorFactors, Units}
use Rattle.ipmi_records.specs.declared.entity.Entity.{Entity}
use Rattle.ipmi_records.specs.declared.sensor.Sensor.{Sensor}
use Rattle.ipmi_records.specs.declared.sharing.Modifier.{Modifier}
use Rattle.ipmi_records.specs.declared.sharing.Sharing.{Sharing}
use Rattle.ipmi_records.specs.declared.threshold.Threshold.{Threshold}
use Rattle.ipmi_records.specs.declared.locator.Locator.{Locator}
use Rattle.ipmi_records.specs.Bytes.{byte_at, has_bit, signed}

-- an entity: its id, and bits 6:0 of its instance
abbrev pub entity_in : ℕ → ℕ → Entity
entity_in id instance = record { id = id; instance = instance % 128 }

-- ---- full, compact and event-only records (tables 43-1 to 43-3)

-- byte 6 is the owner, bits 1:0 of byte 7 are the owner's LUN, byte 8 is the sensor number, and
-- bytes 9 and 10 are the entity; where the sensor type and the event/reading type are depends on
-- the kind of record
abbrev pub sensor_by : ℕ → ℕ → List ℕ → Sensor
sensor_by sensor_type event_type bytes = record {
  owner = byte_at 6 bytes;
  lun = byte_at 7 bytes % 4;
  number = byte_at 8 bytes;
  entity = entity_in (byte_at 9 bytes) (byte_at 10 bytes);
  sensor_type = sensor_type;
  event_type = event_type;
}

-- both types are bytes 13 and 14 of a full and of a compact record
abbrev pub sensor_in : List ℕ → Sensor
sensor_in bytes = sensor_by (byte_at 13 bytes) (byte_at 14 bytes) bytes

-- both types are bytes 11 and 12 of an event-only record
abbrev pub event_only_sensor : List ℕ → Sensor
event_only_sensor bytes = sensor_by (byte_at 11 bytes) (byte_at 12 bytes) bytes

-- bytes 21 to 23 of a full and of a compact record: sensor units 1, base unit, modifier unit
abbrev pub units_in : List ℕ → Units
units_in bytes = record {
  units1 = byte_at 21 bytes;
  base = byte_at 22 bytes;
  modifier = byte_at 23 bytes;
}

-- ---- only compact and event-only records (tables 43-2 and 43-3)

-- the ID string instance modifier type
abbrev pub modifier_of : ℕ → Modifier
modifier_of bits =
    if bits == 0 then Modifier.Numeric
    else if bits == 1 then Modifier.Alpha
    else Modifier.Reserved

-- how sensors share a record: bits 3:0 of a byte are their count, bits 5:4 the modifier's type, and bits 6:0 of the
-- next byte its offset
abbrev pub sharing_at : ℕ → List ℕ → Sharing
sharing_at place bytes = record {
  count = byte_at place bytes % 16;
  modifier = modifier_of (byte_at place bytes / 16 % 4);
  offset = byte_at (place + 1) bytes % 128;
}

-- ---- only full records (table 43-1)

-- bits 7:6 of sensor units 1
abbrev pub analog_format : List ℕ → ℕ
analog_format bytes = byte_at 21 bytes / 64

-- bits 6:0 of byte 24
abbrev pub linearization : List ℕ → ℕ
linearization bytes = byte_at 24 bytes % 128

-- M: byte 25, and bits 7:6 of byte 26 as bits 9:8; 10 bits in 2's complement
abbrev pub factor_m : List ℕ → ℤ
factor_m bytes = signed 512 (byte_at 25 bytes + 256 * (byte_at 26 bytes / 64))

-- B: byte 27, and bits 7:6 of byte 28 as bits 9:8; 10 bits in 2's complement
abbrev pub factor_b : List ℕ → ℤ
factor_b bytes = signed 512 (byte_at 27 bytes + 256 * (byte_at 28 bytes / 64))

-- K1, the exponent of B: bits 3:0 of byte 30; 4 bits in 2's complement
abbrev pub exponent_k1 : List ℕ → ℤ
exponent_k1 bytes = signed 8 (byte_at 30 bytes % 16)

-- K2, the exponent of the result: bits 7:4 of byte 30; 4 bits in 2's complement
abbrev pub exponent_k2 : List ℕ → ℤ
exponent_k2 bytes = signed 8 (byte_at 30 bytes / 16)

abbrev pub factors_in : List ℕ → SensorFactors
factors_in bytes = record {
  format = analog_format bytes;
  linear = linearization bytes;
  m = factor_m bytes;
  b = factor_b bytes;
  k1 = exponent_k1 bytes;
  k2 = exponent_k2 bytes;
}

-- the byte of a threshold
abbrev pub threshold_place : Threshold → ℕ
threshold_place Threshold.UpperNonRecoverable = 37
threshold_place Threshold.UpperCritical = 38
threshold_place Threshold.UpperNonCritical = 39
threshold_place Threshold.LowerNonRecoverable = 40
threshold_place Threshold.LowerCritical = 41
threshold_place Threshold.LowerNonCritical = 42

abbrev pub threshold_in : Threshold → List ℕ → ℕ
threshold_in threshold bytes = byte_at (threshold_place threshold) bytes

-- the bit of a threshold, in the readable thresholds (byte 19) and in the comparisons of Get Sensor
-- Reading (section 35.14)
abbrev pub threshold_bit : Threshold → ℕ
threshold_bit Threshold.UpperNonRecoverable = 5
threshold_bit Threshold.UpperCritical = 4
threshold_bit Threshold.UpperNonCritical = 3
threshold_bit Threshold.LowerNonRecoverable = 2
threshold_bit Threshold.LowerCritical = 1
threshold_bit Threshold.LowerNonCritical = 0

abbrev pub is_readable : Threshold → List ℕ → Bool
is_readable threshold bytes = has_bit (threshold_bit threshold) (byte_at 19 bytes)

-- ---- generic device, FRU device and management controller device locators (sections 43.7 to 43.9)

-- byte 6 is the address, bytes 13 and 14 the entity
abbrev pub locator_in : List ℕ → Locator
locator_in bytes = record {
  address = byte_at 6 bytes;
  entity = entity_in (byte_at 13 bytes) (byte_at 14 bytes);
}
