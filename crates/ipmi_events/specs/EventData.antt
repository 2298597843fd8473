-- The bytes of event data (IPMI v2.0, section 29.7 and table 29-6).
use Rattle.std.specs.Prelude.{ℕ, ◌/◌, ◌%◌, ◌-◌, ◌==◌, if◌then◌else◌, List, slice_index}
use Rattle.ipmi_records.specs.Sel.{event_data, event_type, is_deasserted, sensor_type}
use Rattle.ipmi_events.specs.declared.event_data.EventData.{EventData}
use Rattle.ipmi_events.specs.declared.event_data.Holding.{Holding}

-- what event data 2 or 3 contains, according to two bits of event data 1; a byte of FFh is
-- unspecified (table 29-6), unless it is an extension code
abbrev pub held_by : ℕ → ℕ → Holding
held_by bits byte =
    if bits == 0 then Holding.Nothing
    else if bits == 3 then Holding.Extension
    else if byte == 0xff then Holding.Nothing
    else if bits == 1 then Holding.Value
    else Holding.Oem

-- event data 1, 2 or 3
abbrev pub event_data_at : ℕ → List ℕ → ℕ
event_data_at n bytes = slice_index (event_data bytes) (n - 1)

-- event data 1 has the offset in bits 3:0; bits 7:6 and 5:4 say what event data 2 and 3 contain
abbrev pub data_of : List ℕ → EventData
data_of bytes = record {
  event_type = event_type bytes;
  sensor_type = sensor_type bytes;
  is_deasserted = is_deasserted bytes;
  offset = event_data_at 1 bytes % 16;
  second_holds = held_by (event_data_at 1 bytes / 64) (event_data_at 2 bytes);
  second = event_data_at 2 bytes;
  third_holds = held_by (event_data_at 1 bytes / 16 % 4) (event_data_at 3 bytes);
  third = event_data_at 3 bytes;
}
