-- A cursor along a walk: the rows that it returned, and the calls that are left for the others.
use Rattle.std.proofs.Common.{◌≡◌, ◌⊎◌, inl, inr, ℕ, ◌+◌, ◌<◌, ◌≤◌, Option, Some, Result, Ok, List, [], ◌∷◌, ◌++◌, length, length-drop, drop, take, ap, sym, subst, ◌∙◌, arith}
use Rattle.std.proofs.lemmas.List.{drop-drop}
use Rattle.ipmi_commands.specs.Below.{step_call_bound, digits, first_row, len_of, look, Place, Ended, Row, rows_of, WalkEnd, WalkStep, Seen, AsksNothing, CursorState, StandsAt, IsStep, StaysHonest, StepLeaves, asked_at}
use Rattle.ipmi_commands.specs.Prelude.{AreWithin, CallsAlong, calls_for, calls_for_points, counted, first_rows, Form, IsOnWalk, IsWithin, points_because_of, shelf_of}
use Rattle.ipmi_commands.specs.declared.limits.Tries.{Tries}
use Rattle.ipmi_commands.proofs.CallLemmas.{digits_some, next_calls, next_one, next_taken}
use Rattle.ipmi_commands.proofs.LimitLemmas.{are_within_more, counted-more, counts_as, drop_used, first_row-left}

-- the rows within the limit, if the cursor was after k rows of a walk
abbrev pub used : Form → Option ℕ → List Row → ℕ → List Row
used form most walk k = first_rows form most (drop k walk)

-- those that were not returned yet
abbrev pub left_rows : Form → Option ℕ → ℕ → List Row → ℕ → List Row
left_rows form most size walk k = drop size (used form most walk k)

-- the cursor returned `size` rows since it was after k rows, all of them within the limit, which counted `count` of them; and
-- this many calls are left
pub record IsAlong (form : Form) (tries : Tries) (most : Option ℕ) (size count : ℕ) (begun now : CursorState)
    (s s' : Seen) (start : Place) (walk : List Row) (k : ℕ) : Type 0 where
  pub stands : StandsAt (rows_of (shelf_of form) s.store) start walk (k + size) now
  pub calls : s'.calls + digits now.part + calls_for form s.store tries (left_rows form most size walk k)
      ≤ s.calls + calls_for form s.store tries (used form most walk k) + digits begun.part
  pub within : AreWithin form most (take size (drop k walk))
  pub count_is : count ≡ counted form (take size (drop k walk))

-- there are so many rows
pub fits : {form : Form} {tries : Tries} {most : Option ℕ} {size count : ℕ} {begun now : CursorState}
    {s s' : Seen} {start : Place} {walk : List Row} {k : ℕ}
    → IsAlong form tries most size count begun now s s' start walk k → size ≤ length (drop k walk)
fits {walk = walk} {k = k} along = omega (arith, along.stands.within, length-drop k walk)

-- a cursor that makes no more calls
pub stopped_along : {form : Form} {tries : Tries} {most : Option ℕ} {size count : ℕ} {begun now : CursorState}
    {s s' : Seen} {start : Place} {walk : List Row} {k : ℕ}
    → IsAlong form tries most size count begun now s s' start walk k → 0 < now.part
    → CallsAlong form tries (used form most walk k) begun s s'
stopped_along {now = now} along some part = omega (arith, along.calls, digits_some now.part some)

-- ---- its next step, if no store was added

pub record StepsAlong (form : Form) (tries : Tries) (most : Option ℕ) (size count : ℕ) (begun now next : CursorState)
    (s s' s'' : Seen) (result : Result (Option Row) Ended) (start : Place) (walk : List Row) (end : WalkEnd)
    (k : ℕ) : Type 0 where
  pub shelf : now.shelf ≡ shelf_of form
  pub tries_are : now.tries ≡ tries.count
  pub some : 0 < begun.part → 0 < now.part
  pub below : IsWithin most (count + 1)
  pub stays : StaysHonest s s'
  pub first : s'.stores_added ≡ s.stores_added
  pub then_ : s''.stores_added ≡ s'.stores_added
  pub on : IsOnWalk (rows_of (shelf_of form) s.store) start walk end k begun
  pub there : IsAlong form tries most size count begun now s s' start walk k
  pub step : IsStep now next s' s'' result

module _ {form : Form} {tries : Tries} {most : Option ℕ} {size count : ℕ} {begun now next : CursorState}
    {s s' s'' : Seen} {result : Result (Option Row) Ended} {start : Place} {walk : List Row} {end : WalkEnd}
    {k : ℕ} (a : StepsAlong form tries most size count begun now next s s' s'' result start walk end k) where
  same_rows : rows_of now.shelf s'.store ≡ rows_of (shelf_of form) s.store
  same_rows = rw a.shelf (ap (rows_of (shelf_of form)) (a.stays.store.stays a.first))

  -- the step along the walk
  pub stepped : WalkStep (rows_of (shelf_of form) s.store) start walk end (k + size) now next result
  stepped = (rw same_rows at ((a.step.walks a.stays.honest).follows a.then_ start walk end (k + size))) a.on.walks a.on.ends a.there.stands

  -- it requests the next row or no row, or makes no call
  asks_next : AsksNothing now
      ⊎ (len_of (look (rows_of (shelf_of form) s.store) (asked_at now.place))
      ≡ len_of (first_row (drop (k + size) walk)))
  asks_next = (rw same_rows at (a.step.asks a.stays.honest start walk end (k + size))) a.on.walks a.on.ends a.there.stands

  -- its calls are within the bound for the next row, or for no row
  for_next : len_of (look (rows_of (shelf_of form) s.store) (asked_at now.place))
      ≡ len_of (first_row (drop (k + size) walk))
      → s''.calls + digits next.part ≤ s'.calls
      + step_call_bound tries.count (len_of (first_row (drop (k + size) walk))) + digits now.part
  for_next is = rw (same_rows, a.tries_are, is) at ((a.step.honest a.stays.honest).calls a.then_)

  pub next_row : first_row (left_rows form most size walk k) ≡ first_row (drop (k + size) walk)
  next_row =
      let below : IsWithin most (counted form (take size (drop k walk)) + 1) = subst (λ (n : ℕ). IsWithin most (n + 1)) a.there.count_is a.below in
      ap first_row (drop_used form most size (drop k walk) (fits a.there) a.there.within)
      ∙ first_row-left form most (counted form (take size (drop k walk))) (drop size (drop k walk)) below ∙ ap first_row (drop-drop size k walk)

  -- so all calls are within the bound
  pub in_all : CallsAlong form tries (used form most walk k) begun s s''
  in_all part =
      let bound = rw next_row at (next_calls form s.store tries (left_rows form most size walk k)) in
      elim asks_next [
        | inl nothing ↦ omega (arith, bound, a.there.calls, ap (λ (x : Seen). x.calls) (a.step.no_call nothing), digits_some now.part (a.some part))
        | inr is ↦ omega (arith, bound, a.there.calls, for_next is, digits_some next.part a.step.same.part_not_zero)
      ]

-- ---- it returned a row, and the reading or inventory that the row requires was requested

-- a step that returned a record made a call
asks_something : (now next : CursorState) (row : Row) → StepLeaves now next (Ok (Some row))
    → AsksNothing now → ⊥
asks_something now next row leaves asks = grind arith

module _ {form : Form} {tries : Tries} {most : Option ℕ} {size count : ℕ} {begun now next : CursorState}
    {s s' s'' : Seen} {row : Row} {start : Place} {walk : List Row} {end : WalkEnd} {k : ℕ}
    (a : StepsAlong form tries most size count begun now next s s' s'' (Ok (Some row)) start walk end k) where
  pub row_is : left_rows form most size walk k ≡ row ∷ left_rows form most (size + 1) walk k
  row_is = next_one (used form most walk k) size row (next_row a ∙ (stepped a).0)

  -- the rows that the cursor returned, and this one
  taken : take (size + 1) (drop k walk) ≡ take size (drop k walk) ++ row ∷ []
  taken = next_taken (drop k walk) size row (ap first_row (drop-drop size k walk) ∙ (stepped a).0)

  pub one_more : (last : Seen)
      → last.calls ≤ s''.calls + calls_for_points tries s.store (points_because_of form row)
      → IsAlong form tries most (size + 1) (count + counts_as form row) begun next s last start walk k
  one_more last asked = record {
    stands = let on_more : k + size + 1 ≡ k + (size + 1) = omega arith in rw on_more at (stepped a).1;
    calls = elim (asks_next a) [
      | inl nothing ↦ absurd (asks_something now next row a.step.leaves nothing)
      | inr is ↦ omega (arith, asked, rw row_is at a.there.calls, rw (stepped a).0 at (for_next a is))
    ];
    within = subst (AreWithin form most) (sym taken)
        (are_within_more form most (take size (drop k walk)) row a.there.within (subst (λ (n : ℕ). IsWithin most (n + 1)) a.there.count_is a.below));
    count_is = ap (λ (n : ℕ). n + counts_as form row) a.there.count_is ∙ sym (counted-more form (take size (drop k walk)) row)
        ∙ ap (counted form) (sym taken);
  }
