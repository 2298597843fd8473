-- The canonical text of a store in version 2, and the line of a single record.
use Rattle.std.specs.Prelude.{◌≡◌, ℕ, zero, suc, ◌+◌, ◌/◌, ◌==◌, ◌<◌, ◌≤◌, if◌then◌else◌, Option, Some, None, Ok, List, [], ◌∷◌, ◌++◌, length, take, drop, map, flat_map, All, codes}
use Rattle.std.specs.List.{concat, join_with_byte}
use Rattle.byteorder.specs.Endian.{big_bytes}
use Rattle.hex.specs.Hex.{encode_lower}
use Rattle.ipmi_image.specs.Below.{Row, Store, Inventory, SensorReading, IsStore}
use Rattle.ipmi_image.specs.Image.{first_id, store_of_image}

-- a number as n bytes in hex, the highest first
abbrev pub hex_of : ℕ → ℕ → List ℕ
hex_of n x = encode_lower (big_bytes n x)

-- ---- the fields of each line

-- the next id, or a dash if it is the id of the following row
abbrev pub next_field : ℕ → ℕ → List ℕ
next_field following next = if next == following then codes "-" else hex_of 2 next

-- the word of a row, its id, `next` as the field for its next id, and its bytes
abbrev pub fields_with_next : List ℕ → List ℕ → Row → List (List ℕ)
fields_with_next word next row = word ∷ hex_of 2 row.id ∷ next ∷ encode_lower row.bytes ∷ []

-- the fields of a row; `following` is the id of the following row, FFFFh if there is none
abbrev pub row_fields : List ℕ → ℕ → Row → List (List ℕ)
row_fields word following row = fields_with_next word (next_field following row.next) row

abbrev pub rows_lines : List ℕ → List Row → List (List (List ℕ))
rows_lines word [] = []
rows_lines word (row ∷ rows) =
    row_fields word (first_id (λ following. following.id) rows) row ∷ rows_lines word rows

-- the first n parts, each of 64 bytes or as many as are left
abbrev pub first_parts : ℕ → List ℕ → List (List ℕ)
first_parts zero bytes = []
first_parts (suc n) bytes = take 64 bytes ∷ first_parts n (drop 64 bytes)

-- all parts
abbrev pub parts_of : List ℕ → List (List ℕ)
parts_of bytes = first_parts ((length bytes + 63) / 64) bytes

abbrev pub part_fields : ℕ → List ℕ → List (List ℕ)
part_fields id part = codes "fru" ∷ hex_of 1 id ∷ encode_lower part ∷ []

abbrev pub inventory_lines : Inventory → List (List (List ℕ))
inventory_lines inventory = map (part_fields inventory.id) (parts_of inventory.bytes)

-- a LUN has a single digit
abbrev pub reading_fields : SensorReading → List (List ℕ)
reading_fields sensor = codes "reading" ∷ drop 1 (hex_of 1 sensor.lun) ∷ hex_of 1 sensor.number
    ∷ encode_lower (sensor.reading.raw ∷ sensor.reading.flags ∷ sensor.reading.status
    ∷ sensor.reading.more ∷ []) ∷ []

abbrev pub info_lines : List ℕ → Option (List ℕ) → List (List (List ℕ))
info_lines word None = []
info_lines word (Some bytes) = (codes "info" ∷ word ∷ encode_lower bytes ∷ []) ∷ []

-- ---- the text

-- the fields, separated by single spaces, and a line feed
abbrev pub line_text : List (List ℕ) → List ℕ
line_text fields = join_with_byte 32 fields ++ 10 ∷ []

-- the line that `sdr hex` prints for a record: `sdr ID NEXT HEX` and a line feed; NEXT is never a
-- dash
abbrev pub record_line_of : Row → List ℕ
record_line_of row = line_text (fields_with_next (codes "sdr") (hex_of 2 row.next) row)

abbrev pub lines_text : List (List (List ℕ)) → List ℕ
lines_text lines = concat (map line_text lines)

-- inventories, readings, infos, and the last line
abbrev pub other_lines : Store → List (List (List ℕ))
other_lines store =
    flat_map inventory_lines store.inventories ++ (map reading_fields store.readings
    ++ (info_lines (codes "sdr") store.sdr_info ++ (info_lines (codes "sel") store.sel_info
    ++ (codes "end" ∷ []) ∷ [])))

-- the first line, the rows of each shelf in order, and the other lines
unfoldable pub image_text_of : Store → List ℕ
image_text_of store =
    lines_text ((codes "ipmi-image" ∷ codes "2" ∷ [])
    ∷ (rows_lines (codes "sdr") store.sdr
    ++ (rows_lines (codes "sel") store.sel ++ other_lines store)))

-- ---- the stores that an image can have

-- no inventory is empty, and a LUN is two bits
pub record IsSaved (store : Store) : Type 0 where
  pub some : All (λ inventory. 0 < length inventory.bytes) store.inventories
  pub luns : All (λ sensor. sensor.lun ≤ 3) store.readings

-- the text of such a store is read as that store
abbrev pub RewritingKeepsStores : Type 0
RewritingKeepsStores =
    (store : Store) → IsStore store → IsSaved store → store_of_image (image_text_of store)
    ≡ Ok store
