-- The details in event data 2 and 3 of a discrete event (IPMI v2.0, table 29-6).
use Rattle.std.specs.Prelude.{ℕ, ◌/◌, ◌%◌, ◌==◌, if◌then◌else◌, false, List, [], ◌∷◌, ◌++◌, codes}
use Rattle.ipmi_text.specs.Hex.{hex_byte}
use Rattle.ipmi_events.specs.declared.event_data.Byte.{Byte}
use Rattle.ipmi_events.specs.declared.event_data.EventData.{EventData}
use Rattle.ipmi_events.specs.declared.event_data.Holding.{Holding}
use Rattle.ipmi_events.specs.Extensions.{fields_of, fields_text}
use Rattle.ipmi_events.specs.Parts.{parts_text}
use Rattle.ipmi_events.specs.Words.{event_in_words}

-- ---- bytes without words in a table

abbrev pub data_label : Byte → List ℕ
data_label Byte.Two = codes "data 2 0x"
data_label Byte.Three = codes "data 3 0x"

abbrev pub raw_part : Byte → ℕ → List (List ℕ)
raw_part byte value = (data_label byte ++ hex_byte value) ∷ []

-- ---- the previous state and the severity

-- a state, unless its offset is Fh (unspecified)
unfoldable pub state_part : List ℕ → ℕ → ℕ → ℕ → List (List ℕ)
state_part label event_type sensor_type offset =
    if offset == 0x0f then []
    else (label ++ event_in_words event_type sensor_type offset) ∷ []

-- bits 3:0 of event data 2 are the previous state, an offset of the event's own type; bits 7:4 are
-- the severity, an offset of type 07h
abbrev pub states_parts : EventData → List (List ℕ)
states_parts event =
    state_part (codes "was ") event.event_type event.sensor_type (event.second % 16)
    ++ state_part (codes "severity ") 0x07 event.sensor_type (event.second / 16)

-- ---- extension codes

-- the parts, or else the byte itself
abbrev pub or_raw : Byte → ℕ → List (List ℕ) → List (List ℕ)
or_raw byte value [] = raw_part byte value
or_raw byte value (part ∷ parts) = part ∷ parts

-- the text of the byte by table 42-3, which is for event/reading type 6Fh only
abbrev pub extension_parts : Byte → EventData → ℕ → List (List ℕ)
extension_parts byte event value =
    or_raw byte value
    (if event.event_type == 0x6f then fields_text (fields_of byte) event value else [])

-- ---- both bytes

abbrev pub byte_parts : Byte → Holding → EventData → ℕ → List (List ℕ)
byte_parts byte Holding.Nothing event value = []
byte_parts Byte.Two Holding.Value event value = states_parts event
byte_parts Byte.Three Holding.Value event value = []
byte_parts byte Holding.Oem event value = raw_part byte value
byte_parts byte Holding.Extension event value = extension_parts byte event value

-- the parts of event data 2, then those of event data 3
abbrev pub discrete_details : EventData → List ℕ
discrete_details event =
    parts_text false
    (byte_parts Byte.Two event.second_holds event event.second
    ++ byte_parts Byte.Three event.third_holds event event.third)
