-- Faults by what is found: of an area and of the records.
use Rattle.std.proofs.Common.{◌≡◌, ℕ, true, inl, inr, Option, None, Some, Result, Ok, Err, List, [], drop, is_none, is_err, refl, ap, subst}
use Rattle.std.specs.List.{list_any}
use Rattle.ipmi_fru.specs.Prelude.{Area, AreaFault, AreaField, AreaKind, HasItems, IsFound, MultiFault, MultiRecord, Spells, area_at, field_bytes, fields_in, has_area_fault, has_record_fault, has_record_fault_at, is_fault_found, items_in, offset_of}
use Rattle.ipmi_fru.proofs.FieldLemmas.{are_spelt, fields_in-found}
use Rattle.ipmi_fru.proofs.RecordLemmas.{no_items, some_items}
use Rattle.ipmi_fru.proofs.UniqueLemmas.{one_items}

none_found : (bytes : List ℕ) → ((fields : List AreaField) → Spells bytes fields → ⊥)
    → (found : Option (List AreaField)) → fields_in bytes ≡ found → is_none found ≡ true
none_found bytes none None is = refl
none_found bytes none (Some fields) is = absurd (none fields (are_spelt bytes fields is))

-- an area has a fault exactly if one is found
pub fault_found : (kind : AreaKind) (bytes : List ℕ) (found : Option (Result Area AreaFault))
    → IsFound kind bytes found → has_area_fault kind bytes ≡ is_fault_found found
fault_found kind bytes None none = rw none refl
fault_found kind bytes (Some (Ok area)) (offset, (is, fine)) =
    let fields = fields_in-found _ area.fields (subst (λ (l : List ℕ). Spells (field_bytes kind l) area.fields) fine.bytes_are fine.fields_are) in
    rw (is, fine.fine, fields) refl
fault_found kind bytes (Some (Err f)) (offset, (is, inl fault)) = rw (is, fault) refl
fault_found kind bytes (Some (Err f)) (offset, (is, inr past)) =
    rw (is, past.0.fine) (none_found (field_bytes kind (area_at offset bytes)) past.0.no_list _ refl)

-- the records have a fault exactly if one of their items is one
pub fault_listed : (bytes : List ℕ) (items : List (Result MultiRecord MultiFault))
    → HasItems bytes items → has_record_fault bytes ≡ list_any is_err items
fault_listed bytes items are = by (offset_of 5 bytes) refl
  where
    by : (at : Option ℕ) → offset_of 5 bytes ≡ at
        → has_record_fault_at at bytes ≡ list_any is_err items
    by None none = ap (list_any is_err) (one_items bytes [] items (no_items bytes [] none refl) are)
    by (Some offset) is =
        let part = drop offset bytes in
        ap (list_any is_err) (one_items bytes (items_in part) items (some_items bytes part (items_in part) offset is refl refl) are)
