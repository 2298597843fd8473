-- The contents of one line of an image, or its fault, without regard to other lines.
use Rattle.std.specs.Prelude.{ℕ, ◌%◌, ◌==◌, ◌&&◌, ◌||◌, not, Bool, true, false, if◌then◌else◌, Option, Some, None, Result, Ok, Err, ok_or, option_map, option_and_then, List, [], ◌∷◌, length, codes, bytes_eq}
use Rattle.std.specs.Result.{result_ok}
use Rattle.byteorder.specs.Endian.{big_number}
use Rattle.hex.specs.Hex.{decode_of}
use Rattle.ipmi_image.specs.Below.{Shelf, Sdr, Sel}
use Rattle.ipmi_image.specs.declared.cause.LineCause.{LineCause}
use Rattle.ipmi_image.specs.declared.image_line.LineFault.{LineFault}
use Rattle.ipmi_image.specs.declared.version.Version.{Version}
use Rattle.ipmi_image.specs.Text.{pieces}

-- a row as in its line; if it has no next id, that is the id of the following row, or FFFFh if none
-- follows
pub record SavedRow : Type 0 where
  pub id : ℕ
  pub next : Option ℕ
  pub bytes : List ℕ

-- the key of a row
abbrev pub id_of : SavedRow → ℕ
id_of row = row.id

-- the contents of a line
pub data Line : Type 0 where
  a_row : Shelf → SavedRow → Line
  an_inventory : (id : ℕ) → (bytes : List ℕ) → Line
  a_reading : (lun number : ℕ) → (bytes : List ℕ) → Line
  an_info : Shelf → (bytes : List ℕ) → Line
  the_end : Line

-- ---- fields

abbrev pub is_some_text : List ℕ → Bool
is_some_text [] = false
is_some_text (character ∷ field) = true

-- the bytes in pairs of hex digits of either case
abbrev pub bytes_in : List ℕ → Option (List ℕ)
bytes_in hex = result_ok (decode_of hex)

-- the number in n bytes of two hex digits each, the highest first
abbrev pub number_in : ℕ → List ℕ → Option ℕ
number_in n hex = option_map (big_number n) (bytes_in hex)

abbrev pub is_dash : List ℕ → Bool
is_dash field = bytes_eq field (codes "-")

-- the next id; a dash means the id of the following row, or FFFFh if none follows
abbrev pub next_in : List ℕ → Option (Option ℕ)
next_in field = if is_dash field then Some None else option_map (λ id. Some id) (number_in 2 field)

abbrev pub shelf_in : List ℕ → Option Shelf
shelf_in word =
    if bytes_eq word (codes "sdr") then Some Sdr
    else if bytes_eq word (codes "sel") then Some Sel
    else None

-- ---- lines, by their first word. The lengths of the fields are checked first (HEX must not be
-- empty), then the hex digits. The length of HEX is checked with the other lines.

-- a line of two fields, or of three; the cause is that of another number of fields
abbrev pub with_two : LineCause → (List ℕ → List ℕ → Result Line LineFault) → List (List ℕ)
    → Result Line LineFault
with_two cause line (first ∷ second ∷ []) = line first second
with_two cause line fields = Err (LineFault.Line cause)

abbrev pub with_three : LineCause → (List ℕ → List ℕ → List ℕ → Result Line LineFault) → List (List ℕ)
    → Result Line LineFault
with_three cause line (first ∷ second ∷ third ∷ []) = line first second third
with_three cause line fields = Err (LineFault.Line cause)

-- the fault of a line with this HEX if one of its fields is not read as hex
abbrev pub digits_fault : List ℕ → LineFault
digits_fault hex =
    LineFault.Hex (if length hex % 2 == 0 then LineCause.NotHex else LineCause.OddDigits)

-- a next id may be a dash
abbrev pub takes_dashes : Version → Bool
takes_dashes Version.One = false
takes_dashes Version.Two = true

-- why a row with this NEXT has a field of a wrong length
abbrev pub row_cause : Version → List ℕ → LineCause
row_cause version next =
    if is_dash next && not (takes_dashes version) then LineCause.Dash else LineCause.RowNumbers

-- `sdr ID NEXT HEX` and `sel ID NEXT HEX`; NEXT may be a dash if the version takes dashes
abbrev pub row_line : Version → Shelf → List ℕ → List ℕ → List ℕ → Result Line LineFault
row_line version shelf id next hex =
    if (length id == 4) && (((length next == 4) || (takes_dashes version && is_dash next)) && is_some_text hex)
    then ok_or (option_and_then
    (λ i. option_and_then
    (λ n. option_map (λ b. a_row shelf (record { id = i; next = n; bytes = b })) (bytes_in hex))
    (next_in next)) (number_in 2 id)) (digits_fault hex)
    else Err (LineFault.Line (row_cause version next))

-- `fru ID HEX`
abbrev pub inventory_line : List ℕ → List ℕ → Result Line LineFault
inventory_line id hex =
    if (length id == 2) && is_some_text hex
    then ok_or (option_and_then (λ i. option_map (λ b. an_inventory i b) (bytes_in hex))
    (number_in 1 id)) (digits_fault hex)
    else Err (LineFault.Line LineCause.InventoryNumber)

-- `reading LUN NUM HEX8`; LUN is a single digit
abbrev pub reading_line : List ℕ → List ℕ → List ℕ → Result Line LineFault
reading_line lun number hex =
    if (length lun == 1) && ((length number == 2) && is_some_text hex)
    then ok_or (option_and_then
    (λ l. option_and_then (λ n. option_map (λ b. a_reading l n b) (bytes_in hex))
    (number_in 1 number)) (number_in 1 (48 ∷ lun))) (digits_fault hex)
    else Err (LineFault.Line LineCause.ReadingNumbers)

-- `info sdr HEX28` and `info sel HEX28`
abbrev pub info_line : List ℕ → List ℕ → Result Line LineFault
info_line word hex =
    elim (shelf_in word) [
      | Some shelf ↦
          if is_some_text hex
          then ok_or (option_map (λ b. an_info shelf b) (bytes_in hex)) (digits_fault hex)
          else Err (LineFault.Line LineCause.InfoFields)
      | None ↦ Err (LineFault.Line LineCause.InfoFields)
    ]

-- `end` has no fields
abbrev pub end_line : List (List ℕ) → Result Line LineFault
end_line [] = Ok the_end
end_line fields = Err (LineFault.Line LineCause.EndFields)

abbrev pub line_of_fields : Version → List (List ℕ) → Result Line LineFault
line_of_fields version [] = Err (LineFault.Line LineCause.FirstWord)
line_of_fields version (word ∷ fields) =
    if bytes_eq word (codes "sdr") then with_three LineCause.RowFields (row_line version Sdr) fields
    else if bytes_eq word (codes "sel") then with_three LineCause.RowFields (row_line version Sel) fields
    else if bytes_eq word (codes "fru") then with_two LineCause.InventoryFields inventory_line fields
    else if bytes_eq word (codes "reading") then with_three LineCause.ReadingFields reading_line fields
    else if bytes_eq word (codes "info") then with_two LineCause.InfoFields info_line fields
    else if bytes_eq word (codes "end") then end_line fields
    else Err (LineFault.Line LineCause.FirstWord)

-- single spaces separate the fields
unfoldable pub line_of : Version → List ℕ → Result Line LineFault
line_of version text = line_of_fields version (pieces 32 text)
