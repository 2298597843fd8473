-- The chassis, board and product areas (Platform Management FRU Information Storage Definition v1.0, sections 10 to
-- 12).
use Rattle.std.specs.Prelude.{◌≡◌, ℕ, ◌<◌, ◌+◌, ◌-◌, ◌*◌, ◌%◌, ◌==◌, nat_lt, not, if◌then◌else◌, ◌⊎◌, IsTrue, is_some, Option, Some, None, unwrap_or, Result, Ok, Err, List, [], length, take, drop, slice_get, slice_index, codes}
use Rattle.ipmi_fru.specs.declared.area.AreaKind.{AreaKind}
use Rattle.ipmi_fru.specs.declared.area.AreaKind.TheVariants.{Chassis, Board, Product}
use Rattle.ipmi_fru.specs.declared.area.AreaFault.{AreaFault}
use Rattle.ipmi_fru.specs.Header.{is_zero_sum, offset_of}
use Rattle.ipmi_fru.specs.Field.{AreaField, Spells, fields_in}

-- the position of the area's offset in the header
abbrev pub place_of : AreaKind → ℕ
place_of Chassis = 2
place_of Board = 3
place_of Product = 4

-- The number of bytes between the length byte and the first field. Chassis: its type. Board: the
-- language and three bytes of the date. Product: the language.
abbrev pub head_len : AreaKind → ℕ
head_len Chassis = 1
head_len Board = 4
head_len Product = 1

-- the area at an offset: its second byte is its length in units of eight bytes
abbrev pub area_at : ℕ → List ℕ → List ℕ
area_at offset bytes = take (8 * slice_index bytes (offset + 1)) (drop offset bytes)

-- the bytes between the head and the checksum; the checksum is the last byte
abbrev pub field_bytes : AreaKind → List ℕ → List ℕ
field_bytes kind area = drop (2 + head_len kind) (take (length area - 1) area)

-- why there is no area at an offset, without regard to its fields
abbrev pub area_fault : ℕ → List ℕ → Option AreaFault
area_fault offset bytes =
    if nat_lt (length bytes) (offset + 2) then Some AreaFault.Outside
    else if not (slice_index bytes offset % 16 == 1) then Some AreaFault.Version
    else if slice_index bytes (offset + 1) == 0 then Some AreaFault.Length
    else if nat_lt (length bytes) (offset + 8 * slice_index bytes (offset + 1))
    then Some AreaFault.Outside
    else if not (is_zero_sum (area_at offset bytes)) then Some AreaFault.Sum
    else None

-- the name of a fault (like the names of all faults, the project's own)
abbrev pub area_fault_name : AreaFault → List ℕ
area_fault_name AreaFault.Outside = codes "outside"
area_fault_name AreaFault.Version = codes "version"
area_fault_name AreaFault.Length = codes "length"
area_fault_name AreaFault.Sum = codes "checksum"
area_fault_name AreaFault.FieldPastEnd = codes "field past end"

-- an area as contracts see it: its kind, its bytes and its fields
pub record Area : Type 0 where
  pub kind : AreaKind
  pub bytes : List ℕ
  pub fields : List AreaField

-- the area of this kind that begins at the offset
pub record IsArea (kind : AreaKind) (offset : ℕ) (bytes : List ℕ) (area : Area) : Type 0 where
  pub fine : area_fault offset bytes ≡ None
  pub kind_is : area.kind ≡ kind
  pub bytes_are : area.bytes ≡ area_at offset bytes
  pub fields_are : Spells (field_bytes kind area.bytes) area.fields

-- the bytes between the head and the checksum encode no list of fields
pub record HasFieldPastEnd (kind : AreaKind) (offset : ℕ) (bytes : List ℕ) : Type 0 where
  pub fine : area_fault offset bytes ≡ None
  pub no_list : (fields : List AreaField) → Spells (field_bytes kind (area_at offset bytes)) fields
      → ⊥

-- why there is no area at the offset
abbrev pub IsAreaFault : AreaKind → ℕ → List ℕ → AreaFault → Type 0
IsAreaFault kind offset bytes f =
    (area_fault offset bytes ≡ Some f)
    ⊎ (HasFieldPastEnd kind offset bytes × (f ≡ AreaFault.FieldPastEnd))

-- ---- computing the fields

-- an area with the fields computed from its bytes
abbrev pub area_in : AreaKind → List ℕ → Area
area_in kind bytes = record {
  kind = kind;
  bytes = bytes;
  fields = unwrap_or (fields_in (field_bytes kind bytes)) [];
}

-- the area has at least a head and a checksum, and its bytes encode fields
pub record HasFields (kind : AreaKind) (bytes : List ℕ) : Type 0 where
  pub room : 2 + head_len kind < length bytes
  pub found : IsTrue (is_some (fields_in (field_bytes kind bytes)))

-- ---- the fields that the standard names

-- the indexes of these fields in an area of each kind, counted from 0; None if the kind has no such
-- field
abbrev pub manufacturer_index : AreaKind → Option ℕ
manufacturer_index Chassis = None
manufacturer_index Board = Some 0
manufacturer_index Product = Some 0

abbrev pub product_name_index : AreaKind → Option ℕ
product_name_index Chassis = None
product_name_index Board = Some 1
product_name_index Product = Some 1

abbrev pub part_number_index : AreaKind → Option ℕ
part_number_index Chassis = Some 0
part_number_index Board = Some 3
part_number_index Product = Some 2

abbrev pub serial_number_index : AreaKind → Option ℕ
serial_number_index Chassis = Some 1
serial_number_index Board = Some 2
serial_number_index Product = Some 4

abbrev pub version_index : AreaKind → Option ℕ
version_index Product = Some 3
version_index _ = None

abbrev pub asset_tag_index : AreaKind → Option ℕ
asset_tag_index Product = Some 5
asset_tag_index _ = None

abbrev pub fru_file_id_index : AreaKind → Option ℕ
fru_file_id_index Chassis = None
fru_file_id_index Board = Some 4
fru_file_id_index Product = Some 6

-- the field at this index, if there is one
abbrev pub field_at : Option ℕ → List AreaField → Option AreaField
field_at None fields = None
field_at (Some index) fields = slice_get fields index

-- an inventory has no area of this kind, or it has one, or the area has a fault
abbrev pub IsFound : AreaKind → List ℕ → Option (Result Area AreaFault) → Type 0
IsFound kind bytes None = offset_of (place_of kind) bytes ≡ None
IsFound kind bytes (Some (Ok area)) =
    (offset : ℕ) × ((offset_of (place_of kind) bytes ≡ Some offset) × IsArea kind offset bytes area)
IsFound kind bytes (Some (Err f)) =
    (offset : ℕ) × ((offset_of (place_of kind) bytes ≡ Some offset)
    × IsAreaFault kind offset bytes f)
