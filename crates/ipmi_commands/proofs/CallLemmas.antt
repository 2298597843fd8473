-- The number of calls of a listing, and whether its limit is reached.
use Rattle.std.proofs.Common.{◌≡◌, inl, inr, ℕ, ◌+◌, ◌*◌, ◌<◌, ◌≤◌, false, true, Option, Some, IfOk, Result, Ok, Err, List, [], ◌∷◌, ◌++◌, take, drop, refl, sym, ap, ◌∙◌, arith, take-add, take-append-drop}
use Rattle.std.specs.FinSet as set
use Rattle.std.specs.FinSet.{len-insert}
use Rattle.std.specs.Cmp.{nat_cmp_total}
use Rattle.std.proofs.lemmas.Bool.Decides.{nat_tests}
use Rattle.std.proofs.lemmas.List.{drop-drop}
use Rattle.std.proofs.lemmas.Nat.{mul-le}
use Rattle.ipmi_commands.specs.Below.{step_call_bound, digits, Shelf, Ended, Row, first_row, len_of, largest_len, place_after, Place, place_after_rows, Seen, CursorState, IsStep, StepLeaves, HandsOut, Store, Failure}
use Rattle.ipmi_commands.specs.Prelude.{calls_for, Form, is_reached, IsWithin, IsPlace, KeepsListing, ListingCalls}
use Rattle.ipmi_commands.specs.declared.limits.Tries.{Tries}

-- ---- digits

-- a part size has at least one digit
pub digits_some : (n : ℕ) → 0 < n → 1 ≤ digits n
digits_some n some = grind (arith, nat_tests)

-- ---- limits

-- the limit is reached
pub at_limit : (most : Option ℕ) (count : ℕ) → is_reached most count ≡ true → most ≡ Some count
at_limit most count reached = grind (arith, nat_tests)

pub not_at_limit : (most : Option ℕ) (count : ℕ) → is_reached most count ≡ false
    → most ≡ Some count → ⊥
not_at_limit most count more is = grind (arith, nat_tests)

-- otherwise one more is within the limit
pub within_more : (most : Option ℕ) (count : ℕ) → IsWithin most count
    → is_reached most count ≡ false → IsWithin most (count + 1)
within_more most count within more = grind (arith, nat_tests)

-- ---- over any controller

-- since the listing began: the calls are within the bound for the records returned
pub record HasCalled (each count : ℕ) (begun now : CursorState) (s s' : Seen) : Type 0 where
  pub keeps : KeepsListing begun now
  pub calls : s'.calls + set.len begun.ids * each + digits now.part
      ≤ s.calls + set.len now.ids * each + digits begun.part
  pub ids : set.len now.ids ≡ set.len begun.ids + count

-- each returned record adds one id
pub len-next_ids : (now next : CursorState) (row : Row) → HandsOut now next row
    → set.len next.ids ≡ set.len now.ids + 1
len-next_ids now next row hands =
    rw hands.ids (len-insert nat_cmp_total now.ids row.id ∙ rw hands.unseen refl)

is_place : (next : ℕ) → next < 65536 → IsPlace (place_after next)
is_place next fits = grind (arith, nat_tests)

-- at most as many records are requested as there are ids
at_most_all : (rows bound : ℕ) → rows ≤ 65536 → rows * bound ≤ 65536 * bound
at_most_all rows bound most = mul-le rows bound 65536 bound most (omega arith)

if_ok : {T E : Type 0} {P : T → Type 0} (result : Result T E) → ((value : T) → P value)
    → IfOk result P
if_ok (Ok value) holds = holds value
if_ok (Err e) holds = tt

-- the listing stops after a record
pub called_stopped : (each count : ℕ) (most : Option ℕ) (begun now : CursorState) (s s' : Seen)
    (result : Result ℕ Failure) → HasCalled each count begun now s s'
    → ListingCalls each most begun now s s' result
called_stopped each count most begun now s s' result called = record {
  all = λ some. omega (arith, at_most_all (set.len now.ids) each called.keeps.room, called.calls, digits_some now.part (called.keeps.part some));
  some = if_ok result (λ n limit. called.calls);
}

-- a step that returns no record
abbrev pub HandsNothing : Result (Option Row) Ended → Type 0
HandsNothing (Ok (Some row)) = ⊥
HandsNothing _ = Unit {0}

place_kept : (now next : CursorState) (result : Result (Option Row) Ended) → HandsNothing result
    → StepLeaves now next result → IsPlace now.place → IsPlace next.place
place_kept now next result none leaves place = grind arith

ids_kept : (now next : CursorState) (result : Result (Option Row) Ended) → HandsNothing result
    → StepLeaves now next result → next.ids ≡ now.ids
ids_kept now next result none leaves = grind arith

-- a step of a listing over this shelf with these tries; `each` is the largest number of calls for a record
module _ (later : ℕ) {tries each count : ℕ} {shelf : Shelf} {begun now next : CursorState}
    {s s' s'' : Seen} {result : Result (Option Row) Ended}
    (each_is : each ≡ step_call_bound tries (largest_len shelf) + later)
    (same_shelf : now.shelf ≡ shelf) (same_tries : now.tries ≡ tries)
    (called : HasCalled each count begun now s s') (step : IsStep now next s' s'' result) where
  kept_on : set.len next.ids ≤ 65536 → (IsPlace now.place → IsPlace next.place)
      → KeepsListing begun next
  kept_on room place = record {
    shelf = step.same.shelf ∙ called.keeps.shelf;
    tries = step.same.tries ∙ called.keeps.tries;
    part = λ some. step.same.part_not_zero;
    part_falls = omega (arith, step.same.part, called.keeps.part_falls);
    room = room;
    place = λ from. place (called.keeps.place from);
  }

  -- after a record, and its reading or inventory
  pub called_more : {row : Row} → (last : Seen) → result ≡ Ok (Some row)
      → last.calls ≤ s''.calls + later
      → HasCalled each (count + 1) begun next s last
  called_more last is asked =
      let hands = (rw is at step.leaves).1 in
      let more = len-next_ids now next _ hands in
      let one : (set.len now.ids + 1) * each ≡ set.len now.ids * each + each = omega arith in
      record {
        keeps = kept_on hands.at_most (λ from. rw hands.place (is_place _ hands.next));
        calls = rw more (omega (arith, called.calls, rw (same_shelf, same_tries) at step.calls, asked, each_is, one));
        ids = omega (arith, more, called.ids);
      }

  -- the last step of the listing returned no record
  pub called_ended : HandsNothing result → KeepsListing begun next
  called_ended none = kept_on (rw (ids_kept now next result none step.leaves) called.keeps.room) (place_kept now next result none step.leaves)

  pub calls_ended : (most : Option ℕ) (listed : Result ℕ Failure) → HandsNothing result
      → IfOk listed (λ n. most ≡ Some n → s''.calls + set.len begun.ids * each + digits next.part
      ≤ s.calls + set.len next.ids * each + digits begun.part)
      → ListingCalls each most begun next s s'' listed
  calls_ended most listed none limited = record {
    all = λ some.
        let one : (set.len now.ids + 1) * each ≡ set.len now.ids * each + each = omega arith in
        elim step.room [
          | inl asks ↦ omega (arith, at_most_all (set.len now.ids) each called.keeps.room, called.calls, digits_some now.part (called.keeps.part some), ap (λ (x : Seen). x.calls) (step.no_call asks))
          | inr room ↦ omega (arith, at_most_all (set.len now.ids + 1) each (omega (arith, room)), one, called.calls, rw (same_shelf, same_tries) at step.calls, digits_some next.part step.same.part_not_zero, each_is)
        ];
    some = limited;
  }

-- ---- along a walk

module _ (form : Form) (store : Store) (tries : Tries) where
  pub calls_for-append : (done rest : List Row)
      → calls_for form store tries (done ++ rest)
      ≡ calls_for form store tries done + calls_for form store tries rest
  calls_for-append [] rest = omega arith
  calls_for-append (d ∷ done) rest = omega (arith, calls_for-append done rest)

  -- the calls for the first rows, and for the rows after them
  pub calls_split : (size : ℕ) (walk : List Row)
      → calls_for form store tries (take size walk) + calls_for form store tries (drop size walk)
      ≡ calls_for form store tries walk
  calls_split size walk = sym (calls_for-append (take size walk) (drop size walk)) ∙ ap (calls_for form store tries) (take-append-drop size walk)

  -- a step for the next row, or a step that finds no row
  pub next_calls : (rows : List Row) → step_call_bound tries.count (len_of (first_row rows))
      ≤ calls_for form store tries rows + step_call_bound tries.count 0
  next_calls rows = grind arith

-- ---- rows

-- the place after some rows, then after more rows
pub place_after_rows-append : (start : Place) (done rest : List Row)
    → place_after_rows start (done ++ rest) ≡ place_after_rows (place_after_rows start done) rest
place_after_rows-append start [] rest = refl
place_after_rows-append start (d ∷ done) rest = place_after_rows-append (place_after d.next) done rest

-- the first of some rows, and those after it
first_is : (rows : List Row) (row : Row) → first_row rows ≡ Some row → rows ≡ row ∷ drop 1 rows
first_is rows row is = grind arith

-- the first k rows and the next one
pub next_taken : (rows : List Row) (k : ℕ) (row : Row) → first_row (drop k rows) ≡ Some row
    → take (k + 1) rows ≡ take k rows ++ row ∷ []
next_taken rows k row next = take-add k 1 rows ∙ ap (λ (l : List Row). take k rows ++ take 1 l) (first_is (drop k rows) row next)

pub next_one : (rows : List Row) (k : ℕ) (row : Row) → first_row (drop k rows) ≡ Some row
    → drop k rows ≡ row ∷ drop (k + 1) rows
next_one rows k row next = rw (← drop-drop 1 k rows) (first_is (drop k rows) row next)
