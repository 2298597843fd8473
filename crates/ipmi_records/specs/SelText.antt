-- The texts of the event log's entries (the project's own): the line and the block.
use Rattle.std.specs.Prelude.{◌≡◌, ℕ, ◌/◌, ◌%◌, Bool, if◌then◌else◌, List, [], ◌∷◌, ◌++◌, slice_index, codes}
use Rattle.std.specs.List.{concat}
use Rattle.ipmi_records.specs.Below.{byte_h, event_text_of, binary_text, hex_byte, hex_word, word_h, sensor_type_text_of, IsUtcTextOf, labelled}
use Rattle.ipmi_records.specs.declared.sel.SelView.{SelView}
use Rattle.ipmi_records.specs.Bytes.{labelled_lines, columns_line}
use Rattle.ipmi_records.specs.Columns.{type_text}
use Rattle.ipmi_records.specs.Sel.{entry_bytes, entry_type, event_data, event_type, generator_id, is_deasserted, manufacturer_id, oem_data, data_after_type, revision, sensor_number, sensor_type, time_stamp}

-- ---- fields

-- a sensor: its type and its number
abbrev pub numbered_sensor : ℕ → ℕ → List ℕ
numbered_sensor type number = sensor_type_text_of type ++ (codes " #0x" ++ hex_byte number)

-- the words of an event, by its type and the first byte of its data
abbrev pub words_of_event : List ℕ → List ℕ
words_of_event bytes = event_text_of (event_type bytes) (slice_index (event_data bytes) 0)

abbrev pub direction_text : Bool → List ℕ
direction_text deasserted = if deasserted then codes "Deasserted" else codes "Asserted"

-- a manufacturer id, three bytes, as six hex digits, the highest first
abbrev pub manufacturer_text : ℕ → List ℕ
manufacturer_text n = hex_byte (n / 65536 % 256) ++ hex_word (n % 65536)

abbrev pub oem_text : ℕ → List ℕ
oem_text type = codes "OEM record 0x" ++ hex_byte type

-- ---- lines

pub record IsEventLine (id : ℕ) (bytes text : List ℕ) : Type 0 where
  pub time : List ℕ
  pub is_time : IsUtcTextOf (time_stamp bytes) time
  pub text_is : text ≡ columns_line (
      hex_word id
      ∷ time
      ∷ numbered_sensor (sensor_type bytes) (sensor_number bytes)
      ∷ words_of_event bytes
      ∷ direction_text (is_deasserted bytes)
      ∷ [])

pub record IsOemLine (id : ℕ) (bytes text : List ℕ) : Type 0 where
  pub time : List ℕ
  pub is_time : IsUtcTextOf (time_stamp bytes) time
  pub text_is : text ≡ columns_line (hex_word id ∷ time ∷ oem_text (entry_type bytes)
      ∷ manufacturer_text (manufacturer_id bytes) ∷ binary_text (oem_data bytes) ∷ [])

abbrev pub IsSelLine : ℕ → SelView → List ℕ → Type 0
IsSelLine id (SelView.Event bytes) text = IsEventLine id bytes text
IsSelLine id (SelView.OemTimed bytes) text = IsOemLine id bytes text
IsSelLine id (SelView.OemPlain bytes) text =
    text ≡ columns_line (
    hex_word id ∷ oem_text (entry_type bytes) ∷ binary_text (data_after_type bytes) ∷ [])
IsSelLine id (SelView.Other bytes) text =
    text ≡ columns_line (
    hex_word id ∷ type_text (entry_type bytes) ∷ binary_text (data_after_type bytes) ∷ [])

-- ---- blocks

-- the time, the source and the words of an event
pub record AreEventLines (bytes text : List ℕ) : Type 0 where
  pub time : List ℕ
  pub is_time : IsUtcTextOf (time_stamp bytes) time
  pub text_is : text ≡ labelled_lines (
      (codes "Time", time)
      ∷ (codes "Generator", word_h (generator_id bytes))
      ∷ (codes "Revision", byte_h (revision bytes))
      ∷ (codes "Sensor", numbered_sensor (sensor_type bytes) (sensor_number bytes))
      ∷ (codes "Event", words_of_event bytes)
      ∷ (codes "Direction", direction_text (is_deasserted bytes))
      ∷ (codes "Data", binary_text (event_data bytes))
      ∷ [])

pub record AreOemLines (bytes text : List ℕ) : Type 0 where
  pub time : List ℕ
  pub is_time : IsUtcTextOf (time_stamp bytes) time
  pub text_is : text ≡ labelled_lines (
      (codes "Time", time)
      ∷ (codes "Manufacturer", manufacturer_text (manufacturer_id bytes))
      ∷ (codes "Data", binary_text (oem_data bytes))
      ∷ [])

abbrev pub AreFieldLines : SelView → List ℕ → Type 0
AreFieldLines (SelView.Event bytes) text = AreEventLines bytes text
AreFieldLines (SelView.OemTimed bytes) text = AreOemLines bytes text
AreFieldLines (SelView.OemPlain bytes) text =
    text ≡ labelled (codes "Data") (binary_text (data_after_type bytes))
AreFieldLines (SelView.Other bytes) text =
    text ≡ labelled (codes "Data") (binary_text (data_after_type bytes))

-- the block of an entry, which ends with an empty line
pub record IsSelBlock (id : ℕ) (view : SelView) (text : List ℕ) : Type 0 where
  pub fields : List ℕ
  pub are_fields : AreFieldLines view fields
  pub text_is : text ≡ concat (
      labelled (codes "Record") (word_h id)
      ∷ labelled (codes "Type") (byte_h (entry_type (entry_bytes view)))
      ∷ fields
      ∷ codes "\n"
      ∷ [])
