-- The text of an image: its lines, their first fault, and the store that they define.
use Rattle.std.specs.Prelude.{◌≡◌, ℕ, ◌+◌, ◌==◌, nat_lt, not, ◌&&◌, ◌||◌, Bool, true, false, if◌then◌else◌, is_some, Option, Some, None, unwrap_or, Result, Ok, Err, List, [], ◌∷◌, ◌++◌, length, slice_index, filter_map, fold, codes, bytes_eq}
use Rattle.ipmi_image.specs.Below.{Reading, first_row, Shelf, Sdr, Sel, Row, whole_len, largest_len, id_in, Store, IsStore, Inventory, SensorReading, rows_of, info_of, inventory_of, reading_of, has_id}
use Rattle.ipmi_image.specs.declared.image_line.LineFault.{LineFault}
use Rattle.ipmi_image.specs.declared.image.ImageFault.{ImageFault}
use Rattle.ipmi_image.specs.declared.version.Version.{Version}
use Rattle.ipmi_image.specs.Text.{pieces}
use Rattle.ipmi_image.specs.Line.{SavedRow, Line, a_row, an_inventory, a_reading, an_info, the_end, line_of, id_of}

-- ---- the store of a list of lines

-- the row in a line of this shelf
abbrev pub row_on : Shelf → Line → Option SavedRow
row_on Sdr (a_row Sdr row) = Some row
row_on Sel (a_row Sel row) = Some row
row_on shelf line = None

-- the first row's id, FFFFh if there is no row
abbrev pub first_id : {R : Type 0} → (R → ℕ) → List R → ℕ
first_id id [] = 65535
first_id id (row ∷ rows) = id row

-- each row with its next id: if its line has none, it is the id of the following row, and FFFFh for
-- the last row
abbrev pub chained : List SavedRow → List Row
chained [] = []
chained (row ∷ rows) =
    record { id = row.id; next = unwrap_or row.next (first_id id_of rows); bytes = row.bytes }
    ∷ chained rows

-- the inventories with these bytes appended to the one with this id, or as a new one at the end
abbrev pub with_bytes : ℕ → List ℕ → List Inventory → List Inventory
with_bytes id bytes [] = record { id = id; bytes = bytes } ∷ []
with_bytes id bytes (inventory ∷ inventories) =
    if inventory.id == id then record { id = inventory.id; bytes = inventory.bytes ++ bytes }
    ∷ inventories
    else inventory ∷ with_bytes id bytes inventories

abbrev pub with_inventory_line : List Inventory → Line → List Inventory
with_inventory_line inventories (an_inventory id bytes) = with_bytes id bytes inventories
with_inventory_line inventories line = inventories

-- the reading in four bytes
abbrev pub reading_of_bytes : List ℕ → Reading
reading_of_bytes bytes =
    record {
      raw = slice_index bytes 0;
      flags = slice_index bytes 1;
      status = slice_index bytes 2;
      more = slice_index bytes 3;
    }

abbrev pub sensor_on : Line → Option SensorReading
sensor_on (a_reading lun number bytes) =
    Some (record { lun = lun; number = number; reading = reading_of_bytes bytes })
sensor_on line = None

abbrev pub info_on : Shelf → Line → Option (List ℕ)
info_on Sdr (an_info Sdr bytes) = Some bytes
info_on Sel (an_info Sel bytes) = Some bytes
info_on shelf line = None

abbrev pub first_of : List (List ℕ) → Option (List ℕ)
first_of [] = None
first_of (bytes ∷ rest) = Some bytes

-- the store that these lines define
abbrev pub store_of_lines : List Line → Store
store_of_lines lines = record {
  sdr = chained (filter_map (row_on Sdr) lines);
  sel = chained (filter_map (row_on Sel) lines);
  inventories = fold with_inventory_line [] lines;
  readings = filter_map sensor_on lines;
  sdr_info = first_of (filter_map (info_on Sdr) lines);
  sel_info = first_of (filter_map (info_on Sel) lines);
}

-- ---- a line after earlier lines

-- the fault whose condition is the first to hold
abbrev pub first_fault : List (Bool × LineFault) → Option LineFault
first_fault [] = None
first_fault (condition ∷ rest) = if condition.0 then Some condition.1 else first_fault rest

-- the bytes are not a whole record of the shelf, or too long for it
abbrev pub is_no_record : Shelf → List ℕ → Bool
is_no_record shelf bytes =
    not (length bytes == whole_len shelf bytes) || nat_lt (largest_len shelf) (length bytes)

-- the next row must not have this id: only the first row may have 0000h, and none may have FFFFh
abbrev pub is_no_id : List Row → ℕ → Bool
is_no_id rows id = ((id == 0) && is_some (first_row rows)) || (id == 65535)

-- the row is the first one, and its bytes begin with another id than its own
abbrev pub begins_with_another : List Row → SavedRow → Bool
begins_with_another rows row = not (is_some (first_row rows)) && not (id_in row.bytes == row.id)

-- the fault of a row after these. The checks, in this order: its id, whether another row has that
-- id, its length, and the id in the first row's bytes
abbrev pub row_fault : Shelf → List Row → SavedRow → Option LineFault
row_fault shelf rows row = first_fault (
    (is_no_id rows row.id, LineFault.Id)
    ∷ (has_id rows row.id, LineFault.Twice)
    ∷ (is_no_record shelf row.bytes, LineFault.Length)
    ∷ (begins_with_another rows row, LineFault.FirstId)
    ∷ [])

-- the fault of bytes for an inventory, which may already have some: FFh is no FRU device, and an
-- inventory has at most 65,535 bytes
abbrev pub inventory_fault : ℕ → Option (List ℕ) → List ℕ → Option LineFault
inventory_fault id already bytes = first_fault (
    (id == 255, LineFault.Id)
    ∷ (nat_lt 65535 (length (unwrap_or already []) + length bytes), LineFault.TooMany)
    ∷ [])

-- the fault of a sensor's reading. The checks, in this order: its LUN, whether there already is a
-- reading, its length
abbrev pub reading_fault : ℕ → Option Reading → List ℕ → Option LineFault
reading_fault lun already bytes = first_fault (
    (nat_lt 3 lun, LineFault.Id)
    ∷ (is_some already, LineFault.Twice)
    ∷ (not (length bytes == 4), LineFault.Length)
    ∷ [])

-- the fault of an info. The checks, in this order: whether there already is one, its length
abbrev pub info_fault : Option (List ℕ) → List ℕ → Option LineFault
info_fault already bytes = first_fault (
    (is_some already, LineFault.Twice)
    ∷ (not (length bytes == 14), LineFault.Length)
    ∷ [])

-- the fault of a line after lines that define this store
abbrev pub fault_in : Store → Line → Option LineFault
fault_in store (a_row shelf row) = row_fault shelf (rows_of shelf store) row
fault_in store (an_inventory id bytes) = inventory_fault id (inventory_of id store) bytes
fault_in store (a_reading lun number bytes) = reading_fault lun (reading_of lun number store) bytes
fault_in store (an_info shelf bytes) = info_fault (info_of shelf store) bytes
fault_in store the_end = None

-- the contents of the line after these lines, or its fault
abbrev pub line_judged : Version → List Line → List ℕ → Result Line LineFault
line_judged version before text =
    elim (line_of version text) [
      | Ok line ↦
          elim (fault_in (store_of_lines before) line) [ None ↦ Ok line | Some fault ↦ Err fault ]
      | Err fault ↦ Err fault
    ]

-- ---- all lines

-- a line's fault with the line's number, counted from 1; out of memory has no number
abbrev pub at_line : ℕ → LineFault → ImageFault
at_line n LineFault.Memory = ImageFault.Memory
at_line n (LineFault.Line cause) = ImageFault.Line n
at_line n (LineFault.Hex cause) = ImageFault.Hex n
at_line n LineFault.Id = ImageFault.Id n
at_line n LineFault.Twice = ImageFault.Twice n
at_line n LineFault.Length = ImageFault.Length n
at_line n LineFault.FirstId = ImageFault.FirstId n
at_line n LineFault.TooMany = ImageFault.TooMany n

abbrev pub is_end : Line → Bool
is_end the_end = true
is_end line = false

-- no byte follows the line feed before these pieces
abbrev pub ends_here : List (List ℕ) → Bool
ends_here ([] ∷ []) = true
ends_here more = false

-- the store of the earlier lines and of these lines up to `end`, which must be the last; the last
-- piece of a text is not a whole line
unfoldable pub store_after : Version → List Line → List (List ℕ) → Result Store ImageFault
store_after version before (text ∷ (following ∷ rest)) =
    elim (line_judged version before text) [
      | Ok line ↦
          if not (is_end line) then store_after version (before ++ line ∷ []) (following ∷ rest)
          else if ends_here (following ∷ rest) then Ok (store_of_lines before)
          else Err (ImageFault.AfterEnd (length before + 3))
      | Err fault ↦ Err (at_line (length before + 2) fault)
    ]
store_after version before rest = Err ImageFault.NoEnd

-- the version in the first line
abbrev pub version_in : List ℕ → Option Version
version_in first =
    if bytes_eq first (codes "ipmi-image 1") then Some Version.One
    else if bytes_eq first (codes "ipmi-image 2") then Some Version.Two
    else None

abbrev pub store_of_pieces : List (List ℕ) → Result Store ImageFault
store_of_pieces (first ∷ (following ∷ rest)) =
    elim (version_in first) [
      | Some version ↦ store_after version [] (following ∷ rest)
      | None ↦ Err ImageFault.Header
    ]
store_of_pieces rest = Err ImageFault.Header

-- the store of an image's bytes, or their first fault
abbrev pub store_of_image : List ℕ → Result Store ImageFault
store_of_image bytes = store_of_pieces (pieces 10 bytes)

-- ---- a law

-- the store of an image's bytes is well formed
abbrev pub ImagesGiveStores : Type 0
ImagesGiveStores =
    (bytes : List ℕ) (store : Store) → store_of_image bytes ≡ Ok store → IsStore store
