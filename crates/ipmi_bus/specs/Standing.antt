-- Where a cursor is on a walk, and what a step does there.
use Rattle.std.specs.Prelude.{◌≡◌, ℕ, ◌+◌, ◌≤◌, ◌⊎◌, Option, None, Some, Result, Ok, Err, List, length, take, drop}
use Rattle.std.specs.FinSet as set
use Rattle.ipmi_bus.specs.Types.{Cycle, End, Ended, First, GaveUp, Missing, Place, Refused}
use Rattle.ipmi_bus.specs.Shelf.{Row, first_row}
use Rattle.ipmi_bus.specs.Walk.{IsWalk, place_after_rows, has_id, WalkEnd, Done, CycleAt, MissingAt, EndsBy}
use Rattle.ipmi_bus.specs.Store.{rows_of}
use Rattle.ipmi_bus.specs.Seen.{Seen}
use Rattle.ipmi_bus.specs.CursorState.{CursorState}

-- the cursor has returned the first k rows of the walk, and no others
pub record StandsAt (rows : List Row) (start : Place) (walk : List Row) (k : ℕ)
    (c : CursorState) : Type 0 where
  pub within : k ≤ length walk
  pub place : (c.place ≡ place_after_rows start (take k walk))
      ⊎ ((c.place ≡ End) × (start ≡ First) × (first_row rows ≡ None))
  pub ids : (n : ℕ) → set.contains c.ids n ≡ has_id (take k walk) n

-- a step at a walk's end may give up or be refused if it makes a call
abbrev pub MayFail : WalkEnd → Place → Type 0
MayFail Done place = place ≡ First
MayFail (CycleAt n) place = ⊥
MayFail (MissingAt n) place = Unit {0}

-- The step of a cursor at k: before the walk's end it returns row k + 1, at the end it reports that
-- end; or it gives up or is refused, and the cursor does not move.
abbrev pub WalkStep : List Row → Place → List Row → WalkEnd → ℕ → CursorState → CursorState
    → Result (Option Row) Ended → Type 0
WalkStep rows start walk end k old new (Ok (Some row)) =
    (first_row (drop k walk) ≡ Some row) × StandsAt rows start walk (k + 1) new
WalkStep rows start walk end k old new (Ok None) =
    (k ≡ length walk) × (end ≡ Done) × StandsAt rows start walk k new
WalkStep rows start walk end k old new (Err (Cycle n)) =
    (k ≡ length walk) × (end ≡ CycleAt n) × StandsAt rows start walk k new
WalkStep rows start walk end k old new (Err (Missing n)) =
    (k ≡ length walk) × (end ≡ MissingAt n) × StandsAt rows start walk k new
WalkStep rows start walk end k old new (Err (GaveUp n)) =
    StandsAt rows start walk k new × (k ≡ length walk → MayFail end old.place)
WalkStep rows start walk end k old new (Err (Refused n code)) =
    StandsAt rows start walk k new × (k ≡ length walk → MayFail end old.place)
WalkStep rows start walk end k old new _ = ⊥

-- if no store is added, the step follows each walk that has an end and on which the cursor is
pub record FollowsWalks (old new : CursorState) (s s' : Seen)
    (result : Result (Option Row) Ended) : Type 0 where
  pub follows : s'.stores_added ≡ s.stores_added
      → (start : Place) (walk : List Row) (end : WalkEnd) (k : ℕ)
      → IsWalk (rows_of old.shelf s.store) start walk
      → EndsBy (rows_of old.shelf s.store) start walk end
      → StandsAt (rows_of old.shelf s.store) start walk k old
      → WalkStep (rows_of old.shelf s.store) start walk end k old new result
