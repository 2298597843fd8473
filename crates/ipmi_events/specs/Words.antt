-- The words of an event (IPMI v2.0, section 42).
use Rattle.std.specs.Prelude.{ℕ, ◌%◌, ◌==◌, List, ◌++◌, codes, decimal, Option, unwrap_or, if◌then◌else◌, slice_index}
use Rattle.ipmi_text.specs.Hex.{hex_byte}
use Rattle.ipmi_records.specs.Prelude.{event_data}
use Rattle.ipmi_events.specs.Generic.{generic_words}
use Rattle.ipmi_events.specs.Specific.{specific_words}

-- the offset: bits 3:0 of the first byte of event data
abbrev pub event_offset : List ℕ → ℕ
event_offset event = slice_index (event_data event) 0 % 16

-- the words at an offset, if the standard has any: by the event/reading type, and for type 6Fh by
-- the sensor type
unfoldable pub event_words : ℕ → ℕ → ℕ → Option (List ℕ)
event_words event_type sensor_type offset =
    if event_type == 0x6f then specific_words sensor_type offset
    else generic_words event_type offset

-- the words, or else the offset in decimal and the event/reading type
abbrev pub event_in_words : ℕ → ℕ → ℕ → List ℕ
event_in_words event_type sensor_type offset =
    unwrap_or (event_words event_type sensor_type offset)
    (codes "offset " ++ (decimal offset ++ (codes " of type 0x" ++ hex_byte event_type)))
