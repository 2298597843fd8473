-- Whether an inventory has a fault (Platform Management FRU Information Storage Definition v1.0, sections 8, 10 to 13
-- and 16).
use Rattle.std.specs.Prelude.{ℕ, Bool, false, ◌||◌, Option, Some, None, is_some, is_none, Result, is_err, List, drop}
use Rattle.std.specs.List.{list_any}
use Rattle.ipmi_fru.specs.declared.area.AreaKind.{AreaKind}
use Rattle.ipmi_fru.specs.declared.area.AreaKind.TheVariants.{Chassis, Board, Product}
use Rattle.ipmi_fru.specs.declared.area.AreaFault.{AreaFault}
use Rattle.ipmi_fru.specs.Header.{header_fault, offset_of}
use Rattle.ipmi_fru.specs.Field.{fields_in}
use Rattle.ipmi_fru.specs.Area.{Area, area_at, area_fault, field_bytes, place_of}
use Rattle.ipmi_fru.specs.Multirecord.{items_in}

-- there is no area of this kind at the offset, or its bytes encode no list of fields; without an offset there is no
-- fault
abbrev pub has_area_fault_at : AreaKind → Option ℕ → List ℕ → Bool
has_area_fault_at kind None bytes = false
has_area_fault_at kind (Some offset) bytes =
    is_some (area_fault offset bytes)
    || is_none (fields_in (field_bytes kind (area_at offset bytes)))

-- the area of this kind has a fault
abbrev pub has_area_fault : AreaKind → List ℕ → Bool
has_area_fault kind bytes = has_area_fault_at kind (offset_of (place_of kind) bytes) bytes

-- the records at the offset end with a fault; without an offset there are none
abbrev pub has_record_fault_at : Option ℕ → List ℕ → Bool
has_record_fault_at None bytes = false
has_record_fault_at (Some offset) bytes = list_any is_err (items_in (drop offset bytes))

-- the records end with a fault
abbrev pub has_record_fault : List ℕ → Bool
has_record_fault bytes = has_record_fault_at (offset_of 5 bytes) bytes

-- the header, an area or the records have a fault
abbrev pub has_fault : List ℕ → Bool
has_fault bytes =
    is_some (header_fault bytes)
    || (has_area_fault Chassis bytes
    || (has_area_fault Board bytes
    || (has_area_fault Product bytes
    || has_record_fault bytes)))

-- there is an area, and it has a fault
abbrev pub is_fault_found : Option (Result Area AreaFault) → Bool
is_fault_found None = false
is_fault_found (Some found) = is_err found
