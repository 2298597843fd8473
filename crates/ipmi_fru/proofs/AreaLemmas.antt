-- An area and its fields, or its fault.
use Rattle.std.proofs.Common.{◌≡◌, ℕ, true, false, inr, Option, None, Some, List, [], refl, sym, ap, subst, ◌∙◌, unwrap_or, is_some}
use Rattle.ipmi_fru.specs.Prelude.{AreaKind, AreaFault, AreaField, Spells, fields_in, IsArea, IsAreaFault, area_at, area_fault, area_in, field_bytes}
use Rattle.ipmi_fru.proofs.FieldLemmas.{are_spelt, none_spelt}

spelt_there : (bytes : List ℕ) (found : Option (List AreaField)) → fields_in bytes ≡ found
    → is_some found ≡ true → Spells bytes (unwrap_or found [])
spelt_there bytes None is some = cc some
spelt_there bytes (Some fields) is some = are_spelt bytes fields is

module _ (kind : AreaKind) (offset : ℕ) (bytes area part : List ℕ)
    (fine : area_fault offset bytes ≡ None) (area_is : area ≡ area_at offset bytes)
    (part_is : part ≡ field_bytes kind area) where
  pub past_end : is_some (fields_in part) ≡ false
      → IsAreaFault kind offset bytes AreaFault.FieldPastEnd
  past_end none = inr (
    record {
      fine = fine;
      no_list = λ fields spells. none_spelt part none fields (subst (λ (l : List ℕ). Spells l fields) (sym (part_is ∙ ap (field_bytes kind) area_is)) spells);
    },
    refl,
  )

  pub is_area : is_some (fields_in part) ≡ true → IsArea kind offset bytes (area_in kind area)
  is_area some = record {
    fine = fine;
    kind_is = refl;
    bytes_are = area_is;
    fields_are = spelt_there (field_bytes kind area) (fields_in (field_bytes kind area)) refl (subst (λ (l : List ℕ). is_some (fields_in l) ≡ true) part_is some);
  }
