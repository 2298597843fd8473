-- A shelf that begins with the records of an earlier one keeps its rows.
use Rattle.std.proofs.Common.{◌≡◌, ℕ, Bool, true, false, subst, cond, nat_eq, Option, Some, List, [], ◌∷◌, refl, sym, ap, ◌∙◌, eqb-true}
use Rattle.std.proofs.lemmas.Bool.{and_parts}
use Rattle.std.proofs.lemmas.Slice.Eq.{bytes_eq-Decides}
use Rattle.ipmi_image.specs.Below.{Shelf, Sdr, Sel, Row, SameRecord, KeepsRows, Store, first_row, row_with_id, MayLoseReservation}
use Rattle.ipmi_image.specs.Prelude.{Responder, begins_with, reservation_if, seen_as, with_appended}

same_first : (row now : Row) (rows later : List Row)
    → begins_with (row ∷ rows) (now ∷ later) ≡ true
    → SameRecord row now × (begins_with rows later ≡ true)
same_first row now rows later is =
    let parts = and_parts _ _ is in
    let same = and_parts _ _ parts.0 in
    (record { id = sym (eqb-true row.id now.id same.0); bytes = sym ((bytes_eq-Decides row.bytes now.bytes).0 same.1) }, parts.1)

-- the record that is found by an id
abbrev Found : Row → Option Row → Type 0
Found row found = (now : Row) × (found ≡ Some now) × SameRecord row now

with_id : (rows later : List Row) (n : ℕ) (row : Row) → begins_with rows later ≡ true
    → row_with_id n rows ≡ Some row → Found row (row_with_id n later)
with_id [] later n row is found = cc found
with_id (r ∷ rows) [] n row is found = cc is
with_id (r ∷ rows) (m ∷ later) n row is found =
    by (λ more. with_id rows later n row (same_first r m rows later is).1 more) (same_first r m rows later is).0 (nat_eq r.id n) refl found
  where
    by : (row_with_id n rows ≡ Some row → Found row (row_with_id n later)) → SameRecord r m → (b : Bool)
        → nat_eq r.id n ≡ b → cond b (Some r) (row_with_id n rows) ≡ Some row
        → Found row (cond (nat_eq m.id n) (Some m) (row_with_id n later))
    by more same true here found =
        let at : nat_eq m.id n ≡ true = ap (λ (k : ℕ). nat_eq k n) same.id ∙ here in
        let e : r ≡ row = cc found in rw at (subst (λ (x : Row). Found x (Some m)) e (m, refl, same))
    by more same false here found = let at : nat_eq m.id n ≡ false = ap (λ (k : ℕ). nat_eq k n) same.id ∙ here in rw at (more found)

keeps_rows : (rows later : List Row) → begins_with rows later ≡ true → KeepsRows rows later
keeps_rows rows later is n row found = by (nat_eq n 0) refl found
  where
    first : (rows later : List Row) → begins_with rows later ≡ true → first_row rows ≡ Some row
        → Found row (first_row later)
    first [] later is found = cc found
    first (r ∷ rows) [] is found = cc is
    first (r ∷ rows) (m ∷ later) is found = let e : r ≡ row = cc found in subst (λ (x : Row). Found x (Some m)) e (m, refl, (same_first r m rows later is).0)

    by : (b : Bool) → nat_eq n 0 ≡ b → cond b (first_row rows) (row_with_id n rows) ≡ Some row
        → Found row (cond (nat_eq n 0) (first_row later) (row_with_id n later))
    by true zero found = rw zero (first rows later is found)
    by false some found = rw some (with_id rows later n row is found)

none_new : (b : Bool) (reservation : Option ℕ) (r : ℕ) → reservation_if b reservation ≡ Some r
    → (b ≡ true) × (reservation ≡ Some r)
none_new true reservation r is = (refl, is)
none_new false reservation r is = cc is

-- what a grown image does to reservations
pub append_loses : (shelf : Shelf) (old new : Responder) (image : Store)
    → new ≡ record (with_appended image old) { tally = new.tally }
    → MayLoseReservation shelf (seen_as false old) (seen_as false new)
append_loses Sdr old new image is = record {
  none_given = λ r now. (kept r now).1;
  kept_over_change = λ more r now. subst (λ (rows : List Row). KeepsRows old.image.sdr rows) (sym (ap (λ (x : Responder). x.image.sdr) is)) (keeps_rows old.image.sdr image.sdr (kept r now).0);
  plain = λ p. cc p;
}
  where
    kept : (r : ℕ) → new.sdr_reservation ≡ Some r → (begins_with old.image.sdr image.sdr ≡ true) × (old.sdr_reservation ≡ Some r)
    kept r now = none_new _ old.sdr_reservation r (sym (ap (λ (x : Responder). x.sdr_reservation) is) ∙ now)
append_loses Sel old new image is = record {
  none_given = λ r now. (kept r now).1;
  kept_over_change = λ more r now. subst (λ (rows : List Row). KeepsRows old.image.sel rows) (sym (ap (λ (x : Responder). x.image.sel) is)) (keeps_rows old.image.sel image.sel (kept r now).0);
  plain = λ p. cc p;
}
  where
    kept : (r : ℕ) → new.sel_reservation ≡ Some r → (begins_with old.image.sel image.sel ≡ true) × (old.sel_reservation ≡ Some r)
    kept r now = none_new _ old.sel_reservation r (sym (ap (λ (x : Responder). x.sel_reservation) is) ∙ now)
