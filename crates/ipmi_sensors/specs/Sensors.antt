-- Sensors that one walk of the sensor data records finds, and the blocks that are printed of them.
use Rattle.std.specs.Prelude.{◌≡◌, ◌⊎◌, ℕ, ◌+◌, ◌*◌, ◌<◌, ◌≤◌, ◌==◌, Bool, true, false, IsTrue, if◌then◌else◌, Option, None, Some, Result, Ok, Err, List, [], ◌∷◌, ◌++◌, length, take, drop}
use Rattle.std.specs.FinSet as set
use Rattle.std.specs.Borrow.{Bor}
use Rattle.std.specs.List.{Contains}
use Rattle.ipmi_text.specs.declared.reading.Reading.{Reading}
use Rattle.ipmi_records.specs.Columns.{known}
use Rattle.ipmi_records.specs.Sdr.{sdr_view_of}
use Rattle.ipmi_records.specs.declared.sdr.SdrFault.{SdrFault}
use Rattle.ipmi_records.specs.declared.sdr.SdrView.{SdrView}
use Rattle.ipmi_bus.specs.Bounds.{digits}
use Rattle.ipmi_bus.specs.CursorState.{CursorState}
use Rattle.ipmi_bus.specs.Growth.{OnGrowing}
use Rattle.ipmi_bus.specs.Held.{WasHeld}
use Rattle.ipmi_bus.specs.Seen.{Seen}
use Rattle.ipmi_bus.specs.Shelf.{Row}
use Rattle.ipmi_bus.specs.Step.{CursorHoldsCurrent}
use Rattle.ipmi_bus.specs.Steps.{Stepped}
use Rattle.ipmi_bus.specs.Store.{Store}
use Rattle.ipmi_bus.specs.Tries.{LastCallSays, RefusesRecord}
use Rattle.ipmi_bus.specs.Walk.{CycleAt, Done, MissingAt, WalkEnd}
use Rattle.ipmi_bus.specs.declared.controller.Shelf.TheVariants.{Sdr}
use Rattle.ipmi_bus.specs.declared.step.Ended.{Ended}
use Rattle.ipmi_bus.specs.declared.step.Place.{Place}
use Rattle.ipmi_bus.specs.declared.step.Place.TheVariants.{End}
use Rattle.ipmi_command_line.specs.declared.task.Kind.{Kind}
use Rattle.ipmi_output.specs.Failure.{Ending}
use Rattle.ipmi_output.specs.declared.failure.Failure.{Failure}
use Rattle.ipmi_commands.specs.declared.limits.Tries.{Tries}
use Rattle.ipmi_records.specs.Sdr as sdr
use Rattle.ipmi_selection.specs.declared.detail.Detail.{Detail}
use Rattle.ipmi_commands.specs.declared.job.Form.{Form}
use Rattle.ipmi_commands.specs.Format.{IsTextOfRecord, Texts}
use Rattle.ipmi_commands.specs.Allowed.{cause_of, EndsFor, Printed, TextsJoined}
use Rattle.ipmi_commands.specs.Calls.{most_for_one, walk_call_bound}
use Rattle.ipmi_commands.specs.Listing.{CallsAlong, OnEachWalk}
use Rattle.ipmi_commands.specs.Output.{and_then, IsCut, no_output, Output, piece_of}
use Rattle.ipmi_commands.specs.Plan.{OnWalk, reading_points, row_items, rows_end, ReadPoint}
use Rattle.ipmi_selection.specs.Selection.{checks, has_one_of, is_name, of_kind}
use Rattle.ipmi_sensors.specs.declared.sensors.Sought.{Sought}
use Rattle.ipmi_commands.specs.Texts.{IfChosen, IsPieceOver, reading_for}
use Rattle.ipmi_commands.specs.Traced.{IsStopAmong, IsTraced, seen_next}

-- ---- what is sought

abbrev pub seeks : Sought → Row → Bool
seeks (Sought.Named names) row = has_one_of names.now (sdr_view_of row.bytes)
seeks (Sought.Sensors filters) row = checks filters.now row

-- ---- what is found

-- a record that was found: its id, its bytes and its reading
pub record Found : Type 0 where
  pub id : ℕ
  pub bytes : List ℕ
  pub reading : Option Reading

-- the row that was found; which one is next is not kept
abbrev pub row_of_found : Found → Row
row_of_found found = record { id = found.id; next = 0; bytes = found.bytes }

-- the store's reading that belongs to a record; a record with a fault has none
abbrev pub reading_in : Store → Result SdrView SdrFault → Option Reading
reading_in store (Ok view) = reading_for store view
reading_in store (Err fault) = None

-- a row that is found, with the store's reading
abbrev pub found_row : Store → Row → Found
found_row store row =
    record { id = row.id; bytes = row.bytes; reading = reading_in store (sdr_view_of row.bytes) }

-- what is found of a row: the row if it is sought
abbrev pub found_of : Sought → Store → Row → List Found
found_of sought store row =
    if seeks sought row then found_row store row ∷ [] else []

-- what is found of the rows over one store, in their order
abbrev pub found_among : Sought → Store → List Row → List Found
found_among sought store [] = []
found_among sought store (row ∷ rows) = found_of sought store row ++ found_among sought store rows

-- what is found of what a step returned
abbrev pub found_of_result : Sought → Store → Result (Option Row) Ended → List Found
found_of_result sought store (Ok (Some row)) = found_of sought store row
found_of_result sought store _ = []

-- what is found by these steps, in their order: each reading is that of the store which the controller
-- held after the requests for it
abbrev pub found_by : Sought → List Stepped → Seen → List Found
found_by sought [] last = []
found_by sought (step ∷ steps) last =
    found_of_result sought (seen_next steps last).store step.result ++ found_by sought steps last

-- ---- a search over any controller

-- a listing that requests a reading for each record: a search makes at most as many calls
abbrev pub with_readings : Form
with_readings = Form.Record Detail.Line (of_kind Kind.All)

-- each is sought
abbrev pub AreSought : Sought → List Found → Type 0
AreSought sought [] = Unit {0}
AreSought sought (found ∷ rest) = (seeks sought (row_of_found found) ≡ true) × AreSought sought rest

-- records that are sought were added at the end, and nothing else
pub record AddsSought (sought : Sought) (old new : List Found) : Type 0 where
  pub more : List Found
  pub are_sought : AreSought sought more
  pub new_is : new ≡ old ++ more

-- the possible ends of a search: a failure at a record or a reading agrees with the last call
abbrev pub EndsSearch : Seen → Ending → Type 0
EndsSearch seen (Ok done) = Unit {0}
EndsSearch seen (Err (Failure.Ended ended)) = LastCallSays RefusesRecord ended seen
EndsSearch seen (Err Failure.OutOfMemory) = Unit {0}
EndsSearch seen _ = ⊥

-- ---- a search over an honest controller, whatever its store does

-- the point of the reading of a row that is sought
abbrev pub found_points : Sought → Row → List ReadPoint
found_points sought row =
    if seeks sought row then reading_points row.id (sdr_view_of row.bytes) else []

-- why a search stops at the result of a step: the step failed for this reason; or the record that it returned
-- is sought, and its reading was given up or refused; or memory ran out
abbrev pub StopsAtResult : Sought → Result (Option Row) Ended → Failure → Type 0
StopsAtResult sought (Ok (Some row)) failure = IsStopAmong (found_points sought row) (cause_of (Err failure))
StopsAtResult sought (Ok None) failure = ⊥
StopsAtResult sought (Err ended) failure = failure ≡ Failure.Ended ended

-- the search stopped at the last step; what the steps before it returned was searched
pub record StopsAtLast (sought : Sought) (steps : List Stepped) (old new : List Found)
    (failure : Failure) : Type 0 where
  pub done : List Stepped
  pub step : Stepped
  pub are : steps ≡ done ++ step ∷ []
  pub stops : StopsAtResult sought step.result failure
  pub found : new ≡ old ++ found_by sought done step.before

-- at Ok the cursor is at the end, and all that it returned was searched
abbrev pub EndsFound : Sought → CursorState → List Stepped → Seen → List Found → List Found
    → Ending → Type 0
EndsFound sought now steps last old new (Ok done) = (now.place ≡ End) × (new ≡ old ++ found_by sought steps last)
EndsFound sought now steps last old new (Err failure) = StopsAtLast sought steps old new failure

-- the steps of a cursor, and what was found by them
pub record FindsBy (sought : Sought) (begun now : CursorState) (s s' : Seen)
    (old new : List Found) (ending : Ending) : Type 0 where
  pub steps : List Stepped
  pub traced : IsTraced begun now s s' steps
  pub ends : EndsFound sought now steps s' old new ending

-- from this place with a new cursor, which has returned nothing
pub record FindsFrom (sought : Sought) (start : Place) (s s' : Seen) (old new : List Found)
    (ending : Ending) : Type 0 where
  pub begun : CursorState
  pub now : CursorState
  pub shelf : begun.shelf ≡ Sdr
  pub place : begun.place ≡ start
  pub ids : begun.ids ≡ set.empty
  pub finds : FindsBy sought begun now s s' old new ending

-- without memory for the cursor nothing was requested, and nothing found
abbrev pub HasNoMemory : Seen → Seen → List Found → List Found → Ending → Type 0
HasNoMemory s s' old new ending = (ending ≡ Err Failure.OutOfMemory) × (s' ≡ s) × (new ≡ old)

-- Along a walk: all its rows were searched at Ok, when it ends with `Done`, and when the search ended with its
-- cycle or its missing id; otherwise its first `count` rows were.
abbrev pub FindsAlong : Sought → Store → List Row → WalkEnd → List Found → List Found → Ending
    → Type 0
FindsAlong sought store walk end old new (Ok done) =
    (end ≡ Done) × (new ≡ old ++ found_among sought store walk)
FindsAlong sought store walk end old new (Err (Failure.Ended (Ended.Cycle n))) =
    (end ≡ CycleAt n) × (new ≡ old ++ found_among sought store walk)
FindsAlong sought store walk end old new (Err (Failure.Ended (Ended.Missing n))) =
    (end ≡ MissingAt n) × (new ≡ old ++ found_among sought store walk)
FindsAlong sought store walk end old new (Err failure) =
    (count : ℕ) × (new ≡ old ++ found_among sought store (take count walk))

-- what is found of a row over a store that the controller held meanwhile, followed by what is found of the rest
pub record FoundThen (sought : Sought) (s s' : Seen) (row : Row) (IsRest : List Found → Type 0)
    (found : List Found) : Type 0 where
  pub store : Store
  pub held : WasHeld s s' store
  pub rest : List Found
  pub is_rest : IsRest rest
  pub joined : found ≡ found_of sought store row ++ rest

-- what is found of the rows, in their order; each perhaps over another store
abbrev pub AreFoundWhile : Sought → Seen → Seen → List Row → List Found → Type 0
AreFoundWhile sought s s' [] found = found ≡ []
AreFoundWhile sought s s' (row ∷ rows) found =
    FoundThen sought s s' row (λ rest. AreFoundWhile sought s s' rows rest) found

-- along a log that was held meanwhile: all its rows were searched at Ok, otherwise its first `count` rows
abbrev pub FindsWhile : Sought → List Row → Seen → Seen → List Found → List Found → Ending → Type 0
FindsWhile sought log s s' old new (Ok done) =
    (more : List Found) × (new ≡ old ++ more) × AreFoundWhile sought s s' log more
FindsWhile sought log s s' old new (Err failure) =
    (count : ℕ) × (more : List Found) × (new ≡ old ++ more) × AreFoundWhile sought s s' (take count log) more

-- a search over an honest controller: why it ended; what was found, whatever the store does; along the walk, with
-- the number of calls, if no store was added; and along the log as it was meanwhile, if records were only appended
pub record Searches (sought : Sought) (start : Place) (tries : Tries) (s s' : Seen)
    (old new : List Found) (ending : Ending) : Type 0 where
  pub why : EndsFor tries (IsTrue s.plain) s s' (cause_of ending)
  pub traces : HasNoMemory s s' old new ending ⊎ FindsFrom sought start s s' old new ending
  pub along : s'.stores_added ≡ s.stores_added
      → OnWalk Sdr start s.store (λ walk end. FindsAlong sought s.store walk end old new ending
      × (s'.calls ≤ s.calls + walk_call_bound with_readings s.store tries walk))
  pub grows : OnGrowing Sdr start s s' (λ log. FindsWhile sought log s s' old new ending)

-- ---- for the contracts of private functions

-- a search by a cursor, over an honest controller
pub record SearchesBy (sought : Sought) (tries : Tries) (begun now : CursorState) (s s' : Seen)
    (old new : List Found) (ending : Ending) : Type 0 where
  pub why : EndsFor tries (IsTrue s.plain × CursorHoldsCurrent begun s) s s' (cause_of ending)
  pub finds : FindsBy sought begun now s s' old new ending
  pub calls : s'.stores_added ≡ s.stores_added → OnEachWalk Sdr begun s.store
      (λ start walk end k. CallsAlong with_readings tries (drop k walk) begun s s')

-- the calls of a search by a cursor, over any controller
abbrev pub SearchCalls : Tries → CursorState → Seen → Seen → Type 0
SearchCalls tries begun s s' = 0 < begun.part
    → s'.calls + 1 + set.len begun.ids * most_for_one with_readings tries
    ≤ s.calls + 65536 * most_for_one with_readings tries + digits begun.part

-- ---- the blocks of what was found

-- the block of a found sensor with this name; nothing for any other, or with a fault
abbrev pub IsBlockOfFound : Texts → List ℕ → Found → Result SdrView SdrFault → List ℕ → Type 0
IsBlockOfFound x name found (Ok view) text =
    IfChosen (is_name name (sdr.name_of view)) (λ t. IsTextOfRecord x Detail.Block found.id view (known found.reading) t) text
IsBlockOfFound x name found (Err fault) text = text ≡ []

-- it was printed, and counted as an item without a fault
pub record IsPieceOfFound (x : Texts) (name : List ℕ) (found : Found) (piece : Output) : Type 0 where
  pub is_text : IsBlockOfFound x name found (sdr_view_of found.bytes) piece.bytes
  pub counted : piece ≡ piece_of piece.bytes false

-- the blocks of the found sensors with this name, in their order, one after another
abbrev pub AreBlocks : Texts → List ℕ → List Found → Output → Type 0
AreBlocks x name [] text = text ≡ no_output
AreBlocks x name (found ∷ rest) text = TextsJoined
    (λ first. IsPieceOfFound x name found first) (λ more. AreBlocks x name rest more) text

-- the blocks were printed, and nothing else
pub record PrintsBlocks (x : Texts) (name : List ℕ) (found : List Found) (old new : Output) : Type 0 where
  pub text : Output
  pub are : AreBlocks x name found text
  pub new_is : new ≡ and_then old text

-- the blocks of the first of them were printed
pub record PrintsFirst (x : Texts) (name : List ℕ) (found : List Found) (old new : Output) : Type 0 where
  pub done : List Found
  pub rest : List Found
  pub are : found ≡ done ++ rest
  pub printed : PrintsBlocks x name done old new

-- the blocks of the first of them were printed, then a part of the next block
pub record CutsBlock (x : Texts) (name : List ℕ) (found : List Found) (old new : Output) : Type 0 where
  pub whole : Output
  pub first : PrintsFirst x name found old whole
  pub next : Found
  pub later : List Found
  pub rest_is : first.rest ≡ next ∷ later
  pub block : Output
  pub is_block : IsPieceOfFound x name next block
  pub some : 0 < length block.bytes
  pub part : IsCut whole new block

-- the output by how the printing ended
abbrev pub PrintsFound : Texts → List ℕ → List Found → Output → Output → Ending → Type 0
PrintsFound x name found old new (Ok done) = PrintsBlocks x name found old new
PrintsFound x name found old new (Err Failure.OutOfMemory) = PrintsFirst x name found old new
PrintsFound x name found old new (Err Failure.WriteFault) = CutsBlock x name found old new
PrintsFound x name found old new (Err failure) = ⊥

-- ---- a law

-- what is printed of a walk's rows that a search for several names found is, for each of the names, what a
-- listing of this name prints of the walk; and nothing is counted if and only if that listing fails, as no row
-- has the name
abbrev pub BlocksAreOfListing : Texts → Type 0
BlocksAreOfListing x = (names : Bor (List (List ℕ))) (name : List ℕ) (store : Store) (start : Place)
    (walk : List Row) (old new : Output) → Contains names.now name
    → PrintsBlocks x name (found_among (Sought.Named names) store walk) old new
    → Printed (IsPieceOver x store) (row_items (Form.Block name) start walk) old new
    × ((if new.pieces == old.pieces then Err (Failure.NoName name) else Ok tt)
    ≡ rows_end (Form.Block name) walk Done)
