-- The objects of areas (Platform Management FRU Information Storage Definition v1.0, sections 10 to 12).
use Rattle.std.specs.Prelude.{◌≡◌, ℕ, Option, Some, None, Result, Ok, Err, List, [], ◌∷◌, ◌++◌, drop, map, slice_index, codes}
use Rattle.json.specs.Json.{Json, null, string}
use Rattle.ipmi_text.specs.Chassis.{chassis_text_of}
use Rattle.ipmi_text.specs.FieldText.{fru_text_of}
use Rattle.ipmi_fru.specs.Prelude.{Area, AreaField, language_of}
use Rattle.ipmi_fru.specs.declared.area.AreaFault.{AreaFault}
use Rattle.ipmi_fru.specs.declared.area.AreaKind.{AreaKind}
use Rattle.ipmi_records.specs.Prelude.{number_at}
use Rattle.ipmi_json.specs.Object.{integer, object_in, Pair, text_or_null, text_unless_empty, texts}
use Rattle.ipmi_json.specs.Time.{IsIsoMinuteOf}

-- the keys of an area's fields, in the order of the fields
abbrev pub field_keys : AreaKind → List (List ℕ)
field_keys AreaKind.Chassis = codes "part_number" ∷ codes "serial_number" ∷ []
field_keys AreaKind.Board =
    codes "manufacturer"
    ∷ codes "product_name"
    ∷ codes "serial_number"
    ∷ codes "part_number"
    ∷ codes "fru_file_id"
    ∷ []
field_keys AreaKind.Product =
    codes "manufacturer"
    ∷ codes "name"
    ∷ codes "part_number"
    ∷ codes "version"
    ∷ codes "serial_number"
    ∷ codes "asset_tag"
    ∷ codes "fru_file_id"
    ∷ []

-- the text of the first field; null if it is empty or there is no field
abbrev pub first_value : ℕ → List AreaField → Json
first_value language [] = null
first_value language (field ∷ fields) =
    text_unless_empty (fru_text_of field.code language field.bytes)

-- the texts of the fields without a key
abbrev pub extra_texts : ℕ → List AreaField → List (List ℕ)
extra_texts language fields = map (λ field. fru_text_of field.code language field.bytes) fields

-- a member for each key with its field, and an array of the fields after those
abbrev pub field_members : ℕ → List (List ℕ) → List AreaField → List Pair
field_members language [] fields = (codes "extra", texts (extra_texts language fields)) ∷ []
field_members language (key ∷ keys) fields =
    (key, first_value language fields) ∷ field_members language keys (drop 1 fields)

-- the members before the fields: the type of a chassis, the language of a board or a product, the date of a board
abbrev pub AreLeadMembers : AreaKind → List ℕ → List Pair → Type 0
AreLeadMembers AreaKind.Chassis area ms =
    ms ≡ (codes "type", integer (slice_index area 2))
    ∷ (codes "type_name", string (chassis_text_of (slice_index area 2)))
    ∷ []
AreLeadMembers AreaKind.Board area ms =
    (time : Option (List ℕ)) × (IsIsoMinuteOf (number_at 4 3 area) time
    × (ms ≡ (codes "language", integer (slice_index area 2))
    ∷ (codes "manufactured", text_or_null time)
    ∷ (codes "manufactured_raw", integer (number_at 4 3 area))
    ∷ []))
AreLeadMembers AreaKind.Product area ms = ms ≡ (codes "language", integer (slice_index area 2)) ∷ []

pub record IsAreaObject (area : Area) (j : Json) : Type 0 where
  pub lead : List Pair
  pub are_lead : AreLeadMembers area.kind area.bytes lead
  pub is : j ≡ object_in (lead ++ field_members (language_of area.kind area.bytes) (field_keys area.kind) area.fields)

-- null if the inventory has no area of the kind, or the area has a fault
abbrev pub IsAreaValue : Option (Result Area AreaFault) → Json → Type 0
IsAreaValue None j = j ≡ null
IsAreaValue (Some (Ok area)) j = IsAreaObject area j
IsAreaValue (Some (Err f)) j = j ≡ null

abbrev pub area_fault_word : AreaFault → List ℕ
area_fault_word AreaFault.Outside = codes "outside"
area_fault_word AreaFault.Version = codes "version"
area_fault_word AreaFault.Length = codes "length"
area_fault_word AreaFault.Sum = codes "checksum"
area_fault_word AreaFault.FieldPastEnd = codes "field_past_end"

abbrev pub fault_found : Option (Result Area AreaFault) → Option (List ℕ)
fault_found None = None
fault_found (Some (Ok area)) = None
fault_found (Some (Err f)) = Some (area_fault_word f)

-- an area with its key, and its fault with another key
pub record AreAreaMembers (key fault_key : List ℕ) (found : Option (Result Area AreaFault))
    (ms : List Pair) : Type 0 where
  pub value : Json
  pub is_value : IsAreaValue found value
  pub are : ms ≡ (key, value) ∷ (fault_key, text_or_null (fault_found found)) ∷ []
