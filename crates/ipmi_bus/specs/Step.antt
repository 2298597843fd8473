-- One step of a cursor: the state after it over any controller, and its result over an honest one.
use Rattle.std.specs.Prelude.{◌≡◌, ◌≢◌, ℕ, ◌+◌, min, ◌<◌, ◌≤◌, ◌==◌, ◌||◌, Bool, true, false, IsTrue, if◌then◌else◌, Option, None, Some, IsSome, ◌⊎◌, Result, Ok, Err, IsOk, List, length, drop}
use Rattle.std.specs.FinSet as set
use Rattle.std.specs.Ordering.{nat_cmp}
use Rattle.ipmi_bus.specs.Types.{Cycle, End, Ended, First, GaveUp, Id, Malformed, Missing, NotPresent, Place, Refused, Sdr, Sel, Shelf, Stalled}
use Rattle.ipmi_bus.specs.Shelf.{Row, first_row, look, len_of, largest_len, whole_len, id_in}
use Rattle.ipmi_bus.specs.Store.{rows_of}
use Rattle.ipmi_bus.specs.Walk.{IsWalk, WalkEnd, EndsBy, place_after}
use Rattle.ipmi_bus.specs.Seen.{Seen, AsksAtMost, IsHonest, StaysHonest, current}
use Rattle.ipmi_bus.specs.Tries.{WithinTries, GivesUp, IsRefusedWith, LastCallSays, LastFailed, NotGivenUpOrRefused, RefusesRecord}
use Rattle.ipmi_bus.specs.Bounds.{AreWithin}
use Rattle.ipmi_bus.specs.CursorState.{CursorState}
use Rattle.ipmi_bus.specs.Standing.{StandsAt, FollowsWalks}

-- the requested id: 0000h for the first record (at the end there is no call, and this is 0)
abbrev pub asked_at : Place → ℕ
asked_at First = 0
asked_at (Id n) = n
asked_at End = 0

-- the id of a cycle, if there is one: 0000h, or an id that was already returned
abbrev pub cycle_at : Place → set.FinSet nat_cmp → Option ℕ
cycle_at (Id n) ids = if (n == 0) || set.contains ids n then Some n else None
cycle_at _ ids = None

-- ---- over any controller

-- The shelf and the tries are unchanged, the part size does not grow, and reading ahead is not begun. It
-- goes on while the part size stays, and ends at the latest when that falls below 16.
pub record KeepsSettings (old new : CursorState) : Type 0 where
  pub shelf : new.shelf ≡ old.shelf
  pub tries : new.tries ≡ old.tries
  pub part : new.part ≤ old.part
  pub part_not_zero : 0 < new.part
  pub ahead : IsTrue new.ahead → IsTrue old.ahead
  pub ahead_stays : new.part ≡ old.part → new.ahead ≡ old.ahead
  pub ahead_ends : IsTrue new.ahead → (new.part ≡ old.part) ⊎ (16 ≤ new.part)

-- how far the first request for a record may reach: over the header of a sensor data record, or when
-- reading ahead over the longest that the standard has; an entry of the log is asked for whole
abbrev pub first_len : Bool → Shelf → ℕ
first_len true Sdr = 64
first_len false Sdr = 5
first_len _ Sel = 16

-- a step that makes one call under the reservation that it holds asks for so many bytes
abbrev pub FirstAsks : CursorState → Seen → Seen → Type 0
FirstAsks old s s' =
    IsSome old.reservation → s'.calls ≡ s.calls + 1
    → s'.last_asked ≡ min old.part (first_len old.ahead old.shelf)

-- the id of a record requested with this id: at the start, the id in its bytes
abbrev pub handed_id : Place → ℕ → List ℕ → ℕ
handed_id First asked bytes = id_in bytes
handed_id _ asked bytes = asked

-- the cursor is after a record that it returned for the first time
pub record HandsOut (old new : CursorState) (row : Row) : Type 0 where
  pub place : new.place ≡ place_after row.next
  pub ids : new.ids ≡ set.insert old.ids row.id
  pub unseen : set.contains old.ids row.id ≡ false
  pub at_most : set.len new.ids ≤ 65536
  pub id : row.id ≡ handed_id old.place (asked_at old.place) row.bytes
  pub whole : length row.bytes ≡ whole_len old.shelf row.bytes
  pub fits : length row.bytes ≤ largest_len old.shelf
  pub not_at_end : old.place ≢ End
  pub next : row.next < 65536
  pub reserved : IsSome new.reservation

-- the cursor did not move, and holds no reservation
pub record StaysThere (old new : CursorState) : Type 0 where
  pub place : new.place ≡ old.place
  pub ids : new.ids ≡ old.ids
  pub reservation : new.reservation ≡ None

-- there are no more records: the cursor was at the start or at the end, and is now at the end
pub record GoesToEnd (old new : CursorState) : Type 0 where
  pub place : new.place ≡ End
  pub ids : new.ids ≡ old.ids
  pub from : (n : ℕ) → old.place ≢ Id n

-- the requested record did not come, and the cursor did not move
pub record FailsAt (n : ℕ) (old new : CursorState) : Type 0 where
  pub stays : StaysThere old new
  pub asked : n ≡ asked_at old.place
  pub not_at_end : old.place ≢ End

-- Cycle is returned exactly if there is a cycle
abbrev pub StepLeaves : CursorState → CursorState → Result (Option Row) Ended → Type 0
StepLeaves old new (Ok (Some row)) = (cycle_at old.place old.ids ≡ None) × HandsOut old new row
StepLeaves old new (Ok None) = (cycle_at old.place old.ids ≡ None) × GoesToEnd old new
StepLeaves old new (Err (Cycle n)) = (cycle_at old.place old.ids ≡ Some n) × StaysThere old new
StepLeaves old new (Err (Missing n)) =
    (cycle_at old.place old.ids ≡ None) × StaysThere old new × (old.place ≡ Id n)
StepLeaves old new (Err (GaveUp n)) = (cycle_at old.place old.ids ≡ None) × FailsAt n old new
StepLeaves old new (Err (Refused n code)) = (cycle_at old.place old.ids ≡ None) × FailsAt n old new
StepLeaves old new (Err (Stalled n)) = (cycle_at old.place old.ids ≡ None) × FailsAt n old new
StepLeaves old new (Err (Malformed n)) =
    (cycle_at old.place old.ids ≡ None) × FailsAt n old new × (old.shelf ≡ Sdr)

-- the last call agrees with the result: a part came, or at the start there is no record
abbrev pub StepSays : Place → Result (Option Row) Ended → Seen → Type 0
StepSays place (Ok (Some row)) seen = (0 < seen.last_asked) × (seen.last_failure ≡ None)
StepSays place (Ok None) seen =
    place ≡ First → (0 < seen.last_asked) × LastFailed (λ class. class ≡ NotPresent) seen
StepSays place (Err ended) seen = LastCallSays RefusesRecord ended seen

-- a step from here makes no call: the cursor is at the end, or there is a cycle
abbrev pub AsksNothing : CursorState → Type 0
AsksNothing c = (c.place ≡ End) ⊎ IsSome (cycle_at c.place c.ids)

-- on a walk, the step requests the next row of the walk, or at the walk's end no row, or makes no
-- call
abbrev pub AsksAlong : CursorState → Seen → Type 0
AsksAlong c s =
    (start : Place) (walk : List Row) (end : WalkEnd) (k : ℕ)
    → IsWalk (rows_of c.shelf s.store) start walk
    → EndsBy (rows_of c.shelf s.store) start walk end
    → StandsAt (rows_of c.shelf s.store) start walk k c
    → AsksNothing c ⊎ (len_of (look (rows_of c.shelf s.store) (asked_at c.place))
    ≡ len_of (first_row (drop k walk)))

-- ---- over an honest controller, whatever its store does

-- there are no more records: the cursor is at the end, or at the start of an empty shelf
abbrev pub NoneAt : Place → Shelf → Seen → Type 0
NoneAt First shelf seen = look (rows_of shelf seen.store) 0 ≡ None
NoneAt (Id n) shelf seen = ⊥
NoneAt End shelf seen = Unit {0}

-- The returned record is a whole row of the store as it is when the step ends. Missing, and None at
-- First, are returned only if that store has no such row. The troubles and refusals determine the
-- other results.
abbrev pub StepAnswers : CursorState → Seen → Seen → Result (Option Row) Ended → Type 0
StepAnswers old s s' (Ok (Some row)) =
    WithinTries old.tries s s' × (look (rows_of old.shelf s'.store) (asked_at old.place) ≡ Some row)
StepAnswers old s s' (Ok None) = WithinTries old.tries s s' × NoneAt old.place old.shelf s'
StepAnswers old s s' (Err (Cycle n)) = s' ≡ s
StepAnswers old s s' (Err (Missing n)) =
    WithinTries old.tries s s' × (look (rows_of old.shelf s'.store) n ≡ None)
StepAnswers old s s' (Err (GaveUp n)) = GivesUp old.tries s s'
StepAnswers old s s' (Err (Refused n code)) = IsRefusedWith old.tries code.0 s s'
StepAnswers old s s' _ = ⊥

-- the reservation that the cursor holds is current
pub record CursorHoldsCurrent (c : CursorState) (seen : Seen) : Type 0 where
  pub held : (n : ℕ) → c.reservation ≡ Some n → current c.shelf seen ≡ Some n

-- over a plain controller the part size and reading ahead are unchanged, and the step neither gives
-- up nor is refused
pub record StepIsPlain (old new : CursorState) (s' : Seen)
    (result : Result (Option Row) Ended) : Type 0 where
  pub holds : CursorHoldsCurrent new s'
  pub part : new.part ≡ old.part
  pub ahead : new.ahead ≡ old.ahead
  pub fine : NotGivenUpOrRefused result

-- if a reservation is held and there is no trouble, no new one becomes current, and the cursor
-- keeps it unless the step fails
abbrev pub KeepsReservation : CursorState → CursorState → Seen → Seen
    → Result (Option Row) Ended → Type 0
KeepsReservation old new s s' result =
    IsSome old.reservation → s'.troubles ≡ s.troubles
    → ((n : ℕ) → current old.shelf s' ≡ Some n → current old.shelf s ≡ Some n)
    × (IsOk result → new.reservation ≡ old.reservation)

-- over an honest controller
pub record StepIsHonest (old new : CursorState) (s s' : Seen)
    (result : Result (Option Row) Ended) : Type 0 where
  pub stays : StaysHonest s s'
  pub answers : StepAnswers old s s' result
  pub keeps : KeepsReservation old new s s' result
  pub plain : IsTrue s.plain → CursorHoldsCurrent old s → StepIsPlain old new s' result
  pub calls : s'.stores_added ≡ s.stores_added
      → AreWithin old.tries (len_of (look (rows_of old.shelf s.store) (asked_at old.place)))
      old.part new.part s s'

-- ---- the whole step

-- a step, with the cursor and the controller before and after it; a cursor that requests a record
-- has not returned all ids
pub record IsStep (old new : CursorState) (s s' : Seen)
    (result : Result (Option Row) Ended) : Type 0 where
  pub same : KeepsSettings old new
  pub leaves : StepLeaves old new result
  pub calls : AreWithin old.tries (largest_len old.shelf) old.part new.part s s'
  pub asked : AsksAtMost old.part s s'
  pub first : FirstAsks old s s'
  pub says : StepSays old.place result s'
  pub no_call : AsksNothing old → s' ≡ s
  pub room : AsksNothing old ⊎ (set.len old.ids < 65536)
  pub honest : IsHonest s → StepIsHonest old new s s' result
  pub asks : IsHonest s → AsksAlong old s
  pub walks : IsHonest s → FollowsWalks old new s s' result
