-- How the rows that a cursor returned end, over any controller.
use Rattle.std.proofs.Common.{◌≡◌, ◌≢◌, ℕ, ◌==◌, nat_eq, Bool, true, false, ◌||◌, None, Some, Err, List, [], ◌∷◌, ◌++◌, ◌⊎◌, inl, inr, refl, sym, ap, ◌∙◌, arith}
use Rattle.std.specs.FinSet as set
use Rattle.std.specs.FinSet.{contains-empty, contains-insert}
use Rattle.std.specs.Ordering.{nat_cmp}
use Rattle.std.specs.Cmp.{nat_cmp_total, unsigned_tied}
use Rattle.std.proofs.Math.Bool.{or_comm}
use Rattle.std.proofs.lemmas.Bool.Decides.{nat_tests}
use Rattle.std.proofs.lemmas.Option.{none-some}
use Rattle.ipmi_bus.proofs.WalkLemmas.{has_id-append, place_after_rows-last}
use Rattle.ipmi_capture.specs.Accounted.{EndsWhole, IsAbsent}
use Rattle.ipmi_capture.specs.Below.{asked_at, Cycle, cycle_at, CycleAt, CursorState, End, Ended, EndsAfter, EndsBy, First, GaveUp, HandsOut, has_id, Id, last_next, Malformed, Missing, MissingAt, Place, place_after, place_after_rows, Refused, Row, row_with_id, Seen, Stalled, StepLeaves}
use Rattle.ipmi_capture.specs.Left.{EndsAs, StopsAt}

-- the cursor returned exactly these rows, and is at the place after them
pub record IsAfter (rows : List Row) (cursor : CursorState) : Type 0 where
  pub ids : (n : ℕ) → set.contains cursor.ids n ≡ has_id rows n
  pub place : cursor.place ≡ place_after_rows First rows

pub after_none : (cursor : CursorState) → cursor.ids ≡ set.empty → cursor.place ≡ First → IsAfter [] cursor
after_none cursor ids place = record {
  ids = λ n. ap (λ (s : set.FinSet nat_cmp). set.contains s n) ids ∙ contains-empty nat_cmp n;
  place = place;
}

after_last : (start : Place) (rows : List Row) (row : Row) → place_after_rows start (rows ++ row ∷ []) ≡ place_after row.next
after_last start [] row = refl
after_last start (r ∷ rows) row = after_last (place_after r.next) rows row

pub after_more : {rows : List Row} {old new : CursorState} {row : Row} → IsAfter rows old → HandsOut old new row
    → IsAfter (rows ++ row ∷ []) new
after_more {rows} {old} {new} {row} after hands = record {
  ids = λ n.
      ap (λ (s : set.FinSet nat_cmp). set.contains s n) hands.ids
      ∙ contains-insert nat_cmp_total old.ids row.id n
      ∙ ap (λ (b : Bool). b || set.contains old.ids n) (unsigned_tied n row.id)
      ∙ ap (λ (b : Bool). nat_eq n row.id || b) (after.ids n)
      ∙ or_comm (nat_eq n row.id) (has_id rows n)
      ∙ sym (has_id-append rows row n);
  place = hands.place ∙ sym (after_last First rows row);
}

-- ---- the next id of the last row

pub end_or_id : (next : ℕ) → ((next ≡ 65535) × (place_after next ≡ End)) ⊎ ((next ≢ 65535) × (place_after next ≡ Id next))
end_or_id next = by (next == 65535) refl
  where
    by : (b : Bool) → (next == 65535) ≡ b → ((next ≡ 65535) × (place_after next ≡ End)) ⊎ ((next ≢ 65535) × (place_after next ≡ Id next))
    by true is = inl (grind (arith, nat_tests, is), rw is refl)
    by false is = inr ((λ same. grind (arith, nat_tests, is, same)), rw is refl)

row_none : (rows : List Row) (n : ℕ) → has_id rows n ≡ false → row_with_id n rows ≡ None
row_none [] n out = refl
row_none (row ∷ rows) n out = grind (arith, nat_tests, out, row_none rows n)

-- it is requested if it is not 0000h, and no row has it
is_missing : (rows : List Row) (n : ℕ) → ((n == 0) || has_id rows n) ≡ false → n ≢ 65535 → EndsAfter rows rows n (MissingAt n)
is_missing rows n fresh not_end =
    let zero_is : (n == 0) ≡ false = grind (arith, fresh) in
    let out : has_id rows n ≡ false = grind (arith, fresh) in
    (refl, not_end, (λ is. grind (arith, nat_tests, zero_is, is)), out, rw zero_is (row_none rows n out))

fresh_at : (ids : set.FinSet nat_cmp) (n : ℕ) → cycle_at (Id n) ids ≡ None → ((n == 0) || set.contains ids n) ≡ false
fresh_at ids n none = by ((n == 0) || set.contains ids n) refl
  where
    by : (b : Bool) → ((n == 0) || set.contains ids n) ≡ b → ((n == 0) || set.contains ids n) ≡ false
    by true is = absurd (none-some n (sym none ∙ rw is refl))
    by false is = is

turns_at : (ids : set.FinSet nat_cmp) (m n : ℕ) → cycle_at (Id m) ids ≡ Some n → (n ≡ m) × (((m == 0) || set.contains ids m) ≡ true)
turns_at ids m n some = by ((m == 0) || set.contains ids m) refl
  where
    by : (b : Bool) → ((m == 0) || set.contains ids m) ≡ b → (n ≡ m) × (((m == 0) || set.contains ids m) ≡ true)
    by true is = let at : Some m ≡ Some n = sym (rw is refl) ∙ some in (cc at, is)
    by false is = let at : None ≡ Some n = sym (rw is refl) ∙ some in absurd (none-some n at)

module _ {rows : List Row} {c : CursorState} (after : IsAfter rows c) where
  -- the id of the request, where the cursor is not at the end
  pub stops : (n : ℕ) → cycle_at c.place c.ids ≡ None → c.place ≢ End → n ≡ asked_at c.place → StopsAt rows n
  stops n none not_end is = by rows after.place (λ k. after.ids k)
    where
      by : (l : List Row) → c.place ≡ place_after_rows First l → ((k : ℕ) → set.contains c.ids k ≡ has_id l k) → StopsAt l n
      by [] place ids = is ∙ ap asked_at place
      by (row ∷ l) place ids =
          let next = last_next row.next l in
          let at : c.place ≡ place_after next = place ∙ place_after_rows-last row.next l in
          elim (end_or_id next) [
            | inl ended ↦ absurd (not_end (at ∙ ended.1))
            | inr other ↦
                let there : c.place ≡ Id next = at ∙ other.1 in
                let same : n ≡ next = is ∙ ap asked_at there in
                let fresh = fresh_at c.ids next (ap (λ (p : Place). cycle_at p c.ids) (sym there) ∙ none) in
                let missing = is_missing (row ∷ l) next (ap (λ (b : Bool). (next == 0) || b) (sym (ids next)) ∙ fresh) other.0 in
                (same, missing.1, missing.2, missing.3, missing.4)
          ]

  -- the rows turn to 0000h, or to an id of their own
  turns : (n : ℕ) → cycle_at c.place c.ids ≡ Some n → EndsBy rows First rows (CycleAt n)
  turns n some = by rows after.place (λ k. after.ids k)
    where
      by : (l : List Row) → c.place ≡ place_after_rows First l → ((k : ℕ) → set.contains c.ids k ≡ has_id l k)
          → EndsBy l First l (CycleAt n)
      by [] place ids = absurd (none-some n (ap (λ (p : Place). cycle_at p c.ids) (sym place) ∙ some))
      by (row ∷ l) place ids =
          let next = last_next row.next l in
          let at : c.place ≡ place_after next = place ∙ place_after_rows-last row.next l in
          elim (end_or_id next) [
            | inl ended ↦ absurd (none-some n (ap (λ (p : Place). cycle_at p c.ids) (sym (at ∙ ended.1)) ∙ some))
            | inr other ↦
                let there : c.place ≡ Id next = at ∙ other.1 in
                let turned = turns_at c.ids next n (ap (λ (p : Place). cycle_at p c.ids) (sym there) ∙ some) in
                (turned.0, other.0, rw (sym (ids next)) turned.1)
          ]

  -- there are no more records
  pub whole : (seen : Seen) → ((n : ℕ) → c.place ≢ Id n) → (c.place ≡ First → IsAbsent seen) → EndsWhole rows seen
  whole seen no_id says = by rows after.place
    where
      by : (l : List Row) → c.place ≡ place_after_rows First l → EndsWhole l seen
      by [] place = says place
      by (row ∷ l) place =
          let at : c.place ≡ place_after (last_next row.next l) = place ∙ place_after_rows-last row.next l in
          elim (end_or_id (last_next row.next l)) [
            | inl ended ↦ ended.0
            | inr other ↦ absurd (no_id (last_next row.next l) (at ∙ other.1))
          ]

  -- the step failed
  pub ended_as : (new : CursorState) (ended : Ended) → StepLeaves c new (Err ended) → EndsAs c.shelf rows ended
  ended_as new (Cycle n) leaves = turns n leaves.0
  ended_as new (Missing n) leaves = missing rows (stops n leaves.0 (λ is. not_id (sym leaves.2 ∙ is)) (sym (ap asked_at leaves.2))) (sym (sym after.place ∙ leaves.2))
    where
      not_id : Id n ≡ End → ⊥
      not_id is = grind (arith, is)

      missing : (l : List Row) → StopsAt l n → Id n ≡ place_after_rows First l → EndsBy l First l (MissingAt n)
      missing [] stops place = absurd (grind (arith, place))
      missing (row ∷ l) stops place = stops
  ended_as new (GaveUp n) leaves = stops n leaves.0 leaves.1.not_at_end leaves.1.asked
  ended_as new (Refused n code) leaves = stops n leaves.0 leaves.1.not_at_end leaves.1.asked
  ended_as new (Stalled n) leaves = stops n leaves.0 leaves.1.not_at_end leaves.1.asked
  ended_as new (Malformed n) leaves = inl (leaves.2, stops n leaves.0 leaves.1.not_at_end leaves.1.asked)
