-- Bytes encode one list of fields, and one list of records.
use Rattle.std.proofs.Common.{◌≡◌, ◌∙◌, ℕ, Bool, true, false, Option, None, Some, Result, List, [], ◌∷◌, refl, sym, subst}
use Rattle.ipmi_fru.specs.Prelude.{AreaField, AreRecordsAt, ContinuesBy, HasItems, IsRecordList, MultiFault, MultiRecord, Spells, after_record, offset_of}
use Rattle.ipmi_fru.proofs.FieldLemmas.{fields_in-found}

pub one_list_of_fields : (bytes : List ℕ) (a b : List AreaField) → Spells bytes a → Spells bytes b
    → a ≡ b
one_list_of_fields bytes a b x y = let same : Some a ≡ Some b = sym (fields_in-found bytes a x) ∙ fields_in-found bytes b y in cc same

pub one_list_of_records : (bytes : List ℕ) (a b : List MultiRecord) (e f : Option MultiFault)
    → IsRecordList bytes a e → IsRecordList bytes b f → (a ≡ b) × (e ≡ f)
one_list_of_records bytes [] b None f x y = absurd x
one_list_of_records bytes a [] e None x y = absurd y
one_list_of_records bytes [] [] (Some g) (Some h) x y = (refl, cc (x, y))
one_list_of_records bytes [] (s ∷ b) (Some g) f x y = cc (x, y.0)
one_list_of_records bytes (r ∷ a) [] e (Some g) x y = cc (y, x.0)
one_list_of_records bytes (r ∷ a) (s ∷ b) e f x y =
    let first : r ≡ s = x.1.0 ∙ sym y.1.0 in
    let here = subst (λ (r : MultiRecord). ContinuesBy r.last a e (IsRecordList (after_record bytes) a e)) first x.1.1 in
    let more = by (λ x y. one_list_of_records (after_record bytes) a b e f x y) s.last here y.1.1 in
    (cc (first, more.0), more.1)
  where
    by : (IsRecordList (after_record bytes) a e → IsRecordList (after_record bytes) b f
        → (a ≡ b) × (e ≡ f)) → (last : Bool)
        → ContinuesBy last a e (IsRecordList (after_record bytes) a e)
        → ContinuesBy last b f (IsRecordList (after_record bytes) b f) → (a ≡ b) × (e ≡ f)
    by ih true x y = (x.0 ∙ sym y.0, x.1 ∙ sym y.1)
    by ih false x y = ih x y

one_records_at : (at : Option ℕ) (bytes : List ℕ) (a b : List MultiRecord) (e f : Option MultiFault)
    → AreRecordsAt at bytes a e → AreRecordsAt at bytes b f → (a ≡ b) × (e ≡ f)
one_records_at None bytes a b e f x y = (x.0 ∙ sym y.0, x.1 ∙ sym y.1)
one_records_at (Some offset) bytes a b e f x y = one_list_of_records _ a b e f x y

-- an inventory has one list of items
pub one_items : (bytes : List ℕ) (a b : List (Result MultiRecord MultiFault)) → HasItems bytes a
    → HasItems bytes b → a ≡ b
one_items bytes a b h k =
    let same = one_records_at (offset_of 5 bytes) bytes h.records k.records h.end k.end h.are_records k.are_records in
    h.items_are ∙ rw (same.0, same.1) (sym k.items_are)
