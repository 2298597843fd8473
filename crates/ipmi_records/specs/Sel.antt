-- Entries of the event log as views (IPMI v2.0, section 32). An entry has 16 bytes.
use Rattle.std.specs.Prelude.{ℕ, ◌%◌, ◌==◌, ◌&&◌, nat_le, Bool, if◌then◌else◌, List, drop, take}
use Rattle.ipmi_records.specs.declared.sel.SelView.{SelView}
use Rattle.ipmi_records.specs.Bytes.{byte_at, has_bit, number_at}

-- ---- every entry

-- byte 3, after the entry's id
abbrev pub entry_type : List ℕ → ℕ
entry_type bytes = byte_at 3 bytes

-- the view of an entry, by its type: 02h is an event, C0h to DFh are OEM timestamped records, E0h to FFh OEM
-- non-timestamped ones
abbrev pub sel_view_of : List ℕ → SelView
sel_view_of bytes =
    if entry_type bytes == 0x02 then SelView.Event bytes
    else if nat_le 0xc0 (entry_type bytes) && nat_le (entry_type bytes) 0xdf
    then SelView.OemTimed bytes
    else if nat_le 0xe0 (entry_type bytes) then SelView.OemPlain bytes
    else SelView.Other bytes

-- the bytes of a view
abbrev pub entry_bytes : SelView → List ℕ
entry_bytes (SelView.Event bytes) = bytes
entry_bytes (SelView.OemTimed bytes) = bytes
entry_bytes (SelView.OemPlain bytes) = bytes
entry_bytes (SelView.Other bytes) = bytes

-- ---- events and OEM timestamped records (sections 32.1 and 32.2)

-- bytes 4 to 7
abbrev pub time_stamp : List ℕ → ℕ
time_stamp bytes = number_at 4 4 bytes

-- ---- events (section 32.1)

-- bytes 8 and 9
abbrev pub generator_id : List ℕ → ℕ
generator_id bytes = number_at 8 2 bytes

-- the revision of the event message's format
abbrev pub revision : List ℕ → ℕ
revision bytes = byte_at 10 bytes

abbrev pub sensor_type : List ℕ → ℕ
sensor_type bytes = byte_at 11 bytes

abbrev pub sensor_number : List ℕ → ℕ
sensor_number bytes = byte_at 12 bytes

-- bit 7 of byte 13: the event is a deassertion: the reported condition ended, and did not begin
abbrev pub is_deasserted : List ℕ → Bool
is_deasserted bytes = has_bit 7 (byte_at 13 bytes)

-- bits 6:0 of byte 13
abbrev pub event_type : List ℕ → ℕ
event_type bytes = byte_at 13 bytes % 128

-- bytes 14 to 16
abbrev pub event_data : List ℕ → List ℕ
event_data bytes = take 3 (drop 13 bytes)

-- ---- OEM timestamped records (section 32.2)

-- bytes 8 to 10
abbrev pub manufacturer_id : List ℕ → ℕ
manufacturer_id bytes = number_at 8 3 bytes

-- bytes 11 to 16
abbrev pub oem_data : List ℕ → List ℕ
oem_data bytes = take 6 (drop 10 bytes)

-- ---- OEM non-timestamped records (section 32.3), and entries of other types

-- bytes 4 to 16
abbrev pub data_after_type : List ℕ → List ℕ
data_after_type bytes = take 13 (drop 3 bytes)
