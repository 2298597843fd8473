-- The results of a listing by a cursor, and of the two walks for the last entries: for the
-- contracts of private functions.
use Rattle.std.specs.Prelude.{◌≡◌, Bool, false, ℕ, ◌+◌, ◌-◌, ◌*◌, ◌<◌, ◌≤◌, ◌==◌, ◌⊎◌, IsTrue, Option, None, Some, IsSome, IfOk, Result, Ok, Err, List, ◌++◌, length, take, drop}
use Rattle.std.specs.FinSet as set
use Rattle.std.specs.List.{AllPass, concat}
use Rattle.ipmi_commands.specs.Below.{step_call_bound, digits, IsLog, OnGrowing, is_whole_record, OnlyGrew, WasLog, End, Place, Row, Shelf, Sel, Store, rows_of, IsWalk, WalkEnd, Done, EndsBy, place_after_rows, Seen, IsHonest, CursorState, StandsAt, CursorHoldsCurrent, Ending, Failure}
use Rattle.ipmi_commands.specs.declared.limits.Tries.{Tries}
use Rattle.ipmi_commands.specs.declared.job.EntryText.{EntryText}
use Rattle.ipmi_commands.specs.declared.job.Form.{Form}
use Rattle.ipmi_commands.specs.Allowed.{ending_of, IsAllowed, EndsFor, cause_of, Change}
use Rattle.ipmi_commands.specs.Calls.{calls_for, most_for_one, walk_call_bound}
use Rattle.ipmi_commands.specs.Job.{shelf_of, listing, IsPlace}
use Rattle.ipmi_commands.specs.Meanwhile.{IsTextWhile}
use Rattle.ipmi_commands.specs.Plan.{OnWalk, counted, first_rows, listing_plan, last_plan}
use Rattle.ipmi_commands.specs.Output.{Output}
use Rattle.ipmi_commands.specs.Texts.{IsPieceOver, Subject}
use Rattle.ipmi_commands.specs.Traced.{TracesListing}
use Rattle.ipmi_commands.specs.Format.{Texts}

-- ---- over any controller

-- the limit is reached
abbrev pub is_reached : Option ℕ → ℕ → Bool
is_reached None count = false
is_reached (Some n) count = n == count

-- the result of a listing after its last record: Ok, unless the listing searches for a name and
-- wrote nothing
abbrev pub end_of : {T : Type 0} → Form → Bool → T → Result T Failure
end_of (Form.Block name) false with_ = Err (Failure.NoName name)
end_of _ wrote with_ = Ok with_

-- the limit is reached, or the cursor is at the end of the shelf; so it is if no record had the name and there is no limit
abbrev pub ReachesEnd : Option ℕ → CursorState → Result ℕ Failure → Type 0
ReachesEnd most now (Ok count) = (most ≡ Some count) ⊎ (now.place ≡ End)
ReachesEnd most now (Err (Failure.NoName name)) = IsSome most ⊎ (now.place ≡ End)
ReachesEnd most now (Err failure) = Unit {0}

-- these many whole records were written, one after another
pub record WritesRecords (count : ℕ) (old new : List ℕ) : Type 0 where
  pub records : List (List ℕ)
  pub whole : AllPass is_whole_record records
  pub count_is : length records ≡ count
  pub new_is : new ≡ old ++ concat records

-- of a listing of the bytes of records that did not end amid a record: at most 65,536 whole records
-- were written
abbrev pub WritesWhole : Form → List ℕ → List ℕ → Ending → Type 0
WritesWhole form old new (Err Failure.WriteFault) = Unit {0}
WritesWhole Form.Bytes old new ending = (count : ℕ) × (count ≤ 65536) × WritesRecords count old new
WritesWhole form old new ending = Unit {0}

-- the cursor can continue the listing
pub record KeepsListing (begun now : CursorState) : Type 0 where
  pub shelf : now.shelf ≡ begun.shelf
  pub tries : now.tries ≡ begun.tries
  pub part : 0 < begun.part → 0 < now.part
  pub part_falls : now.part ≤ begun.part
  pub room : set.len now.ids ≤ 65536
  pub place : IsPlace begun.place → IsPlace now.place

-- If each record takes at most `each` calls, a listing takes no more calls than for the records
-- that the cursor can still return, of 65,536 in all, and for the reductions of its part size. If
-- it stops at its limit, it takes no more than for the records that it returned, and for the
-- reductions. The sums are written without subtraction.
pub record ListingCalls (each : ℕ) (most : Option ℕ) (begun now : CursorState) (s s' : Seen)
    (result : Result ℕ Failure) : Type 0 where
  pub all : 0 < begun.part
      → s'.calls + 1 + set.len begun.ids * each ≤ s.calls + 65536 * each + digits begun.part
  pub some : IfOk result (λ count. most ≡ Some count
      → s'.calls + set.len begun.ids * each + digits now.part
      ≤ s.calls + set.len now.ids * each + digits begun.part)

-- ---- along a walk

-- a walk of a shelf, its end, and a cursor after the first k rows of the walk
pub record IsOnWalk (rows : List Row) (start : Place) (walk : List Row) (end : WalkEnd) (k : ℕ)
    (cursor : CursorState) : Type 0 where
  pub walks : IsWalk rows start walk
  pub ends : EndsBy rows start walk end
  pub stands : StandsAt rows start walk k cursor

abbrev pub OnEachWalk : Shelf → CursorState → Store → (Place → List Row → WalkEnd → ℕ → Type 0)
    → Type 0
OnEachWalk shelf begun store Holds =
    (start : Place) (walk : List Row) (end : WalkEnd) (k : ℕ)
    → IsOnWalk (rows_of shelf store) start walk end k begun → Holds start walk end k

-- the calls of a cursor along these rows, and of a step that finds no more rows
abbrev pub CallsAlong : Form → Tries → List Row → CursorState → Seen → Seen → Type 0
CallsAlong form tries rows begun s s' =
    0 < begun.part
    → s'.calls + 1 ≤ s.calls + calls_for form s.store tries rows + step_call_bound tries.count 0
    + digits begun.part

-- all rows within the limit were returned, `count` of them were counted, and the cursor is after them; if the
-- limit was reached, the bound has no call for later rows
pub record ListsAll (form : Form) (tries : Tries) (most : Option ℕ) (begun now : CursorState)
    (s s' : Seen) (start : Place) (walk : List Row) (k count : ℕ) : Type 0 where
  pub count_is : count ≡ counted form (first_rows form most (drop k walk))
  pub stands : StandsAt (rows_of (shelf_of form) s.store) start walk (k + length (first_rows form most (drop k walk))) now
  pub calls : most ≡ Some count → s'.calls + digits now.part
      ≤ s.calls + calls_for form s.store tries (first_rows form most (drop k walk)) + digits begun.part

-- along a walk: the output is possible for a listing of the rest of the walk, the number of calls
-- is bounded, and after Ok the cursor is after the returned rows
pub record ListsAlong (x : Texts) (form : Form) (tries : Tries) (most : Option ℕ) (begun now : CursorState)
    (c : Change) (result : Result ℕ Failure) (start : Place) (walk : List Row) (end : WalkEnd)
    (k : ℕ) : Type 0 where
  pub leaves : IsAllowed (IsPieceOver x c.seen.store)
      (listing_plan (listing form (place_after_rows start (take k walk)) most) (drop k walk) end)
      c.old c.new (ending_of result)
  pub calls : CallsAlong form tries (first_rows form most (drop k walk)) begun c.seen c.seen'
  pub all : IfOk result (λ count. ListsAll form tries most begun now c.seen c.seen' start walk k count)

-- a listing by a cursor, over an honest controller
pub record ListsHonestly (x : Texts) (form : Form) (tries : Tries) (most : Option ℕ) (begun now : CursorState)
    (c : Change) (result : Result ℕ Failure) : Type 0 where
  pub ends : EndsFor tries (IsTrue c.seen.plain × CursorHoldsCurrent begun c.seen) c.seen c.seen'
      (cause_of (ending_of result))
  pub holds : IfOk result (λ count. IsTrue c.seen.plain → CursorHoldsCurrent begun c.seen
      → CursorHoldsCurrent now c.seen')
  pub along : c.seen'.stores_added ≡ c.seen.stores_added
      → OnEachWalk (shelf_of form) begun c.seen.store
      (λ start walk end k. ListsAlong x form tries most begun now c result start walk end k)
  pub traces : TracesListing x form most begun now c result

-- the contract of a listing by a cursor
pub record Lists (x : Texts) (form : Form) (tries : Tries) (most : Option ℕ) (begun now : CursorState) (c : Change)
    (result : Result ℕ Failure) : Type 0 where
  pub keeps : KeepsListing begun now
  pub calls : ListingCalls (most_for_one form tries) most begun now c.seen c.seen' result
  pub honest : IsHonest c.seen → ListsHonestly x form tries most begun now c result

-- ---- the last entries

-- all entries were counted, and nothing was printed; or the run fails in a way that is possible for
-- any number of last entries
abbrev pub Counted : (Subject → Output → Type 0) → Place → List Row → WalkEnd → Output → Output
    → Result ℕ Failure → Type 0
Counted IsText start walk end old new (Ok count) =
    (count ≡ length walk) × (end ≡ Done) × (new ≡ old)
Counted IsText start walk end old new (Err failure) =
    (entries : EntryText) (n : ℕ)
    → IsAllowed IsText (last_plan entries n start walk end) old new (Err failure)

pub record CountsEntries (x : Texts) (start : Place) (tries : Tries) (c : Change)
    (result : Result ℕ Failure) : Type 0 where
  pub ends : EndsFor tries (IsTrue c.seen.plain) c.seen c.seen' (cause_of (ending_of result))
  pub along : c.seen'.stores_added ≡ c.seen.stores_added
      → OnWalk Sel start c.seen.store (λ walk end.
      Counted (IsPieceOver x c.seen.store) start walk end c.old c.new result
      × (c.seen'.calls ≤ c.seen.calls + walk_call_bound Form.Skipped c.seen.store tries walk))
  pub grows : OnGrowing Sel start c.seen c.seen' (λ log.
      Counted (IsTextWhile x c.seen c.seen') start log Done c.old c.new result)

-- `passed` entries were skipped and those after them listed; these are the last entries of a walk
-- that ends with `Done`
pub record ListsAfter (x : Texts) (entries : EntryText) (start : Place) (passed : ℕ) (tries : Tries)
    (c : Change) (ending : Ending) : Type 0 where
  pub ends : EndsFor tries (IsTrue c.seen.plain) c.seen c.seen' (cause_of ending)
  pub along : c.seen'.stores_added ≡ c.seen.stores_added
      → OnWalk Sel start c.seen.store (λ walk end. (n : ℕ) → end ≡ Done → passed ≡ length walk - n
      → IsAllowed (IsPieceOver x c.seen.store) (last_plan entries n start walk end) c.old c.new ending
      × (c.seen'.calls ≤ c.seen.calls + walk_call_bound Form.Skipped c.seen.store tries walk))
  pub grows : (first : List Row) → passed ≤ length first → IsLog Sel start c.seen.store first
      → OnlyGrew Sel start c.seen c.seen' → (log : List Row) × WasLog Sel start c.seen c.seen' first log
      × IsAllowed (IsTextWhile x c.seen c.seen') (last_plan entries (length log - passed) start log Done) c.old c.new ending
