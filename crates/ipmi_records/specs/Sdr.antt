-- Sensor data records as views (IPMI v2.0, section 43).
use Rattle.std.specs.Prelude.{ℕ, ◌/◌, ◌%◌, ◌==◌, ◌&&◌, nat_lt, not, if◌then◌else◌, Option, Some, None, option_map, Result, Ok, Err, List, length, drop}
use Rattle.ipmi_records.specs.Below.{sdr_len, sdr_text_of}
use Rattle.ipmi_records.specs.declared.sdr.SdrFault.{SdrFault}
use Rattle.ipmi_records.specs.declared.sdr.SdrView.{SdrView}
use Rattle.ipmi_records.specs.declared.sensor.Sensor.{Sensor}
use Rattle.ipmi_records.specs.declared.sharing.Sharing.{Sharing}
use Rattle.ipmi_records.specs.declared.locator.Locator.{Locator}
use Rattle.ipmi_records.specs.declared.id_string.IdString.{IdString}
use Rattle.ipmi_records.specs.Bytes.{byte_at, has_bit}
use Rattle.ipmi_records.specs.Sensor.{event_only_sensor, locator_in, sensor_in, sharing_at}

-- ---- views

-- byte 4 of the header; bytes 1 and 2 are the record id, byte 3 is the version, byte 5 the length
abbrev pub record_type : List ℕ → ℕ
record_type bytes = byte_at 4 bytes

-- the minimum length of a record of this type: up to and including its ID string's type/length
-- byte; for other types, the header
abbrev pub least_len : ℕ → ℕ
least_len type =
    if type == 0x01 then 48
    else if type == 0x02 then 32
    else if type == 0x03 then 17
    else if type == 0x10 then 16
    else if type == 0x11 then 16
    else if type == 0x12 then 16
    else 5

-- the view of a record's bytes, by its type
abbrev pub sdr_view_by_type : ℕ → List ℕ → SdrView
sdr_view_by_type type bytes =
    if type == 0x01 then SdrView.Full bytes
    else if type == 0x02 then SdrView.Compact bytes
    else if type == 0x03 then SdrView.EventOnly bytes
    else if type == 0x10 then SdrView.Generic bytes
    else if type == 0x11 then SdrView.Fru bytes
    else if type == 0x12 then SdrView.Controller bytes
    else SdrView.Other bytes

-- the view of these bytes, or their first fault: fewer bytes than a header, not as many as the
-- header says, fewer than the type needs
abbrev pub sdr_view_of : List ℕ → Result SdrView SdrFault
sdr_view_of bytes =
    if nat_lt (length bytes) 5 then Err SdrFault.Short
    else if not (length bytes == sdr_len bytes) then Err SdrFault.Length
    else if nat_lt (length bytes) (least_len (record_type bytes)) then Err SdrFault.BodyShort
    else Ok (sdr_view_by_type (record_type bytes) bytes)

-- the bytes of a view
abbrev pub record_bytes : SdrView → List ℕ
record_bytes (SdrView.Full bytes) = bytes
record_bytes (SdrView.Compact bytes) = bytes
record_bytes (SdrView.EventOnly bytes) = bytes
record_bytes (SdrView.Generic bytes) = bytes
record_bytes (SdrView.Fru bytes) = bytes
record_bytes (SdrView.Controller bytes) = bytes
record_bytes (SdrView.Other bytes) = bytes

-- the sensor that a record describes; other records describe none
abbrev pub sensor_of : SdrView → Option Sensor
sensor_of (SdrView.Full bytes) = Some (sensor_in bytes)
sensor_of (SdrView.Compact bytes) = Some (sensor_in bytes)
sensor_of (SdrView.EventOnly bytes) = Some (event_only_sensor bytes)
sensor_of _ = None

-- how sensors share a record: bytes 24 and 25 of a compact record, 13 and 14 of an event-only
-- record; other records are not shared
abbrev pub sharing_of : SdrView → Option Sharing
sharing_of (SdrView.Compact bytes) = Some (sharing_at 24 bytes)
sharing_of (SdrView.EventOnly bytes) = Some (sharing_at 13 bytes)
sharing_of _ = None

-- the device that a locator describes; other records describe none
abbrev pub locator_of : SdrView → Option Locator
locator_of (SdrView.Generic bytes) = Some (locator_in bytes)
locator_of (SdrView.Fru bytes) = Some (locator_in bytes)
locator_of (SdrView.Controller bytes) = Some (locator_in bytes)
locator_of _ = None

-- ---- names

-- an ID string: its type/length byte and all bytes after it
pub record IdField : Type 0 where
  pub type_length : ℕ
  pub rest : List ℕ

-- the code's ID string, as a field
abbrev pub id_field_of : IdString → IdField
id_field_of id = record { type_length = id.type_length; rest = id.rest.now }

abbrev pub id_field_at : ℕ → List ℕ → IdField
id_field_at place bytes = record { type_length = byte_at place bytes; rest = drop place bytes }

abbrev pub id_string_of : SdrView → Option IdField
id_string_of (SdrView.Full bytes) = Some (id_field_at 48 bytes)
id_string_of (SdrView.Compact bytes) = Some (id_field_at 32 bytes)
id_string_of (SdrView.EventOnly bytes) = Some (id_field_at 17 bytes)
id_string_of (SdrView.Generic bytes) = Some (id_field_at 16 bytes)
id_string_of (SdrView.Fru bytes) = Some (id_field_at 16 bytes)
id_string_of (SdrView.Controller bytes) = Some (id_field_at 16 bytes)
id_string_of (SdrView.Other bytes) = None

-- the name of a record, from its ID string
abbrev pub name_of : SdrView → Option (List ℕ)
name_of view = option_map (λ id. sdr_text_of id.type_length id.rest) (id_string_of view)

-- ---- the reading and the inventory that belong to a record

-- the LUN and the number of a sensor, if the controller itself owns it: the whole owner byte is 20h
abbrev pub key_of : Sensor → Option (ℕ × ℕ)
key_of sensor = if sensor.owner == 0x20 then Some (sensor.lun, sensor.number) else None

-- the sensor whose reading is requested: that of a full or a compact record
abbrev pub reading_of : SdrView → Option (ℕ × ℕ)
reading_of (SdrView.Full bytes) = key_of (sensor_in bytes)
reading_of (SdrView.Compact bytes) = key_of (sensor_in bytes)
reading_of _ = None

-- the FRU device (byte 7) of a FRU locator, if it is reached through the controller itself: it is
-- logical (bit 7 of byte 8), at the controller's address and at LUN 0 (bits 4:3 of byte 8)
abbrev pub fru_in : List ℕ → Option ℕ
fru_in bytes =
    if has_bit 7 (byte_at 8 bytes) && (((locator_in bytes).address == 0x20)
    && (byte_at 8 bytes / 8 % 4 == 0))
    then Some (byte_at 7 bytes)
    else None

-- the FRU device whose inventory is requested: that of a FRU locator
abbrev pub fru_of : SdrView → Option ℕ
fru_of (SdrView.Fru bytes) = fru_in bytes
fru_of _ = None
