-- What a listing printed, by the steps of its cursor, whatever the store did meanwhile.
use Rattle.std.specs.Prelude.{◌≡◌, ◌⊎◌, ◌+◌, ◌<◌, ◌≤◌, ℕ, Option, None, Some, IfOk, Result, Ok, Err, List, [], ◌∷◌, ◌++◌, length}
use Rattle.std.specs.FinSet as set
use Rattle.ipmi_commands.specs.Below.{AreSteps, cursor_after, CursorState, Done, End, Ended, Ending, Failure, handed_out, Id, Place, Row, Seen, seen_after, Sel, StaysHonest, Stepped}
use Rattle.ipmi_commands.specs.Output.{and_then, IsCut, no_output, Output}
use Rattle.ipmi_commands.specs.declared.job.EntryText.{EntryText}
use Rattle.ipmi_commands.specs.declared.job.Form.{Form}
use Rattle.ipmi_commands.specs.Format.{Texts}
use Rattle.ipmi_commands.specs.Allowed.{Cause, Change, change, cause_of, ending_of, GaveUp, IsAllowed, IsAmong, NoMemory, Refused, TextsJoined}
use Rattle.ipmi_commands.specs.Job.{shelf_of}
use Rattle.ipmi_commands.specs.Meanwhile.{KeepsAt}
use Rattle.ipmi_commands.specs.Plan.{counted, first_rows, kept_items, last_rows, points_because_of, ReadPoint}
use Rattle.ipmi_selection.specs.Selection.{chosen}
use Rattle.ipmi_commands.specs.Texts.{IsPieceOver, OfRow}

-- the cursor made these steps; after the last one the controller may have got other requests
pub record IsTraced (begun now : CursorState) (s s' : Seen) (steps : List Stepped) : Type 0 where
  pub are : AreSteps begun s steps
  pub cursor : cursor_after begun steps ≡ now
  pub stays : StaysHonest (seen_after s steps) s'

-- a step returned a record
abbrev pub IsReturned : Result (Option Row) Ended → Type 0
IsReturned (Ok (Some row)) = Unit {0}
IsReturned _ = ⊥

-- so did each of these steps
abbrev pub AllReturn : List Stepped → Type 0
AllReturn [] = Unit {0}
AllReturn (step ∷ steps) = IsReturned step.result × AllReturn steps

-- each but the last, after which there may be no other
abbrev pub AllButLastReturn : List Stepped → Type 0
AllButLastReturn [] = Unit {0}
AllButLastReturn (step ∷ []) = Unit {0}
AllButLastReturn (step ∷ (second ∷ steps)) = IsReturned step.result × AllButLastReturn (second ∷ steps)

-- ---- the texts of the returned records

-- The text of a record in this form, over the store that the controller held after the requests for it,
-- `s'`; any text and counts if an inventory changed between `s` and `s'`
abbrev pub IsTextAfter : Texts → Form → Row → Seen → Seen → Output → Type 0
IsTextAfter x form row s s' text = KeepsAt (points_because_of form row) s s' → IsPieceOver x s'.store (OfRow form row) text

-- the text of what a step returned; nothing if that is no record
abbrev pub IsTextOfResult : Texts → Form → Result (Option Row) Ended → Seen → Seen → Output → Type 0
IsTextOfResult x form (Ok (Some row)) s s' text = IsTextAfter x form row s s' text
IsTextOfResult x form _ s s' text = text ≡ no_output

-- the controller before the next step, or at last
abbrev pub seen_next : List Stepped → Seen → Seen
seen_next [] last = last
seen_next (step ∷ steps) last = step.before

-- the texts of what the steps returned, in order
abbrev pub AreTextsOfSteps : Texts → Form → List Stepped → Seen → Output → Type 0
AreTextsOfSteps x form [] last text = text ≡ no_output
AreTextsOfSteps x form (step ∷ steps) last text = TextsJoined
    (λ first. IsTextOfResult x form step.result step.seen (seen_next steps last) first)
    (λ rest. AreTextsOfSteps x form steps last rest) text

-- these texts were printed, and nothing else
pub record PrintsSteps (x : Texts) (form : Form) (steps : List Stepped) (last : Seen)
    (old new : Output) : Type 0 where
  pub text : Output
  pub are : AreTextsOfSteps x form steps last text
  pub new_is : new ≡ and_then old text

-- ---- how the listing ended

-- the count is within the limit
abbrev pub IsWithin : Option ℕ → ℕ → Type 0
IsWithin None count = Unit {0}
IsWithin (Some n) count = count ≤ n

-- none of these rows comes after the limit was reached
abbrev pub AreWithin : Form → Option ℕ → List Row → Type 0
AreWithin form most rows = first_rows form most rows ≡ rows

-- the limit was reached, or there are no more records; all texts were printed
pub record IsListed (x : Texts) (form : Form) (most : Option ℕ) (now : CursorState) (steps : List Stepped)
    (c : Change) (count : ℕ) : Type 0 where
  pub count_is : count ≡ counted form (handed_out steps)
  pub within : AreWithin form most (handed_out steps)
  pub done : (most ≡ Some count) ⊎ (now.place ≡ End)
  pub printed : PrintsSteps x form steps c.seen' c.old c.new

-- the last step returned no record, for this reason, before the limit; all texts were printed
pub record StepFails (x : Texts) (form : Form) (most : Option ℕ) (steps : List Stepped) (c : Change)
    (failure : Failure) : Type 0 where
  pub ended : Ended
  pub is : failure ≡ Failure.Ended ended
  pub done : List Stepped
  pub step : Stepped
  pub are : steps ≡ done ++ (step ∷ [])
  pub returned : step.result ≡ Err ended
  pub within : AreWithin form most (handed_out steps)
  pub below : IsWithin most (counted form (handed_out steps) + 1)
  pub printed : PrintsSteps x form steps c.seen' c.old c.new

-- the last step returned this record, within the limit
pub record ReturnsLast (form : Form) (most : Option ℕ) (steps done : List Stepped) (step : Stepped) (row : Row) : Type 0 where
  pub are : steps ≡ done ++ (step ∷ [])
  pub returned : step.result ≡ Ok (Some row)
  pub within : AreWithin form most (handed_out steps)

-- gives up or is refused at one of the points, or is out of memory
abbrev pub IsStopAmong : List ReadPoint → Cause → Type 0
IsStopAmong points (GaveUp point) = IsAmong points point
IsStopAmong points (Refused point code) = IsAmong points point
IsStopAmong points NoMemory = Unit {0}
IsStopAmong points _ = ⊥

-- the text of the last record is missing: its reading or inventory was given up or refused, or memory
-- ran out; the texts before it were printed
pub record TextFails (x : Texts) (form : Form) (most : Option ℕ) (steps : List Stepped) (c : Change)
    (failure : Failure) : Type 0 where
  pub done : List Stepped
  pub step : Stepped
  pub row : Row
  pub last : ReturnsLast form most steps done step row
  pub there : IsStopAmong (points_because_of form row) (cause_of (Err failure))
  pub printed : PrintsSteps x form done step.before c.old c.new

-- the output failed in the text of the last record; the texts before it were printed
pub record TextIsCut (x : Texts) (form : Form) (most : Option ℕ) (steps : List Stepped) (c : Change)
    (failure : Failure) : Type 0 where
  pub done : List Stepped
  pub step : Stepped
  pub row : Row
  pub last : ReturnsLast form most steps done step row
  pub is : failure ≡ Failure.WriteFault
  pub before : Output
  pub printed : PrintsSteps x form done step.before c.old before
  pub text : Output
  pub is_text : IsTextAfter x form row step.seen c.seen' text
  pub some : 0 < length text.bytes
  pub part : IsCut before c.new text

-- no record had the name: nothing was printed
pub record NoneNamed (x : Texts) (form : Form) (most : Option ℕ) (now : CursorState) (steps : List Stepped)
    (c : Change) (failure : Failure) : Type 0 where
  pub name : List ℕ
  pub searched : form ≡ Form.Block name
  pub is : failure ≡ Failure.NoName name
  pub count : ℕ
  pub listed : IsListed x form most now steps c count
  pub nothing : c.new ≡ c.old

abbrev pub Fails : Texts → Form → Option ℕ → CursorState → List Stepped → Change → Failure → Type 0
Fails x form most now steps c failure =
    StepFails x form most steps c failure ⊎ TextFails x form most steps c failure
    ⊎ TextIsCut x form most steps c failure ⊎ NoneNamed x form most now steps c failure

-- a search for a name printed something
abbrev pub IsFound : Form → Output → Output → Type 0
IsFound (Form.Block name) old new = length old.bytes < length new.bytes
IsFound form old new = Unit {0}

abbrev pub EndsTrace : Texts → Form → Option ℕ → CursorState → List Stepped → Change → Result ℕ Failure → Type 0
EndsTrace x form most now steps c (Ok count) =
    IsListed x form most now steps c count × IsFound form c.old c.new
EndsTrace x form most now steps c (Err failure) = Fails x form most now steps c failure

-- a listing over an honest controller, whatever its store does: the steps of its cursor, and the texts
-- of the records that they returned; it ends after a step that returned none
pub record TracesListing (x : Texts) (form : Form) (most : Option ℕ) (begun now : CursorState) (c : Change)
    (result : Result ℕ Failure) : Type 0 where
  pub steps : List Stepped
  pub traced : IsTraced begun now c.seen c.seen' steps
  pub returned : AllButLastReturn steps
  pub ends : EndsTrace x form most now steps c result

-- A listing from this place with a new cursor, which has returned nothing. Ok is the place where it
-- stopped.
pub record TracesFrom (x : Texts) (form : Form) (start : Place) (most : Option ℕ) (c : Change)
    (result : Result Place Failure) : Type 0 where
  pub begun : CursorState
  pub now : CursorState
  pub listed : Result ℕ Failure
  pub ending : ending_of result ≡ ending_of listed
  pub next : IfOk result (λ place. place ≡ now.place)
  pub shelf : begun.shelf ≡ shelf_of form
  pub place : begun.place ≡ start
  pub ids : begun.ids ≡ set.empty
  pub traces : TracesListing x form most begun now c listed

-- without memory for the cursor, or from id 0000h, nothing was requested and nothing printed
abbrev pub HasNoCursor : Place → Change → Result Place Failure → Type 0
HasNoCursor start c result =
    ((result ≡ Err Failure.OutOfMemory)
    ⊎ ((start ≡ Id 0) × (result ≡ Err (Failure.Ended (Ended.Cycle 0)))))
    × (c.seen' ≡ c.seen) × (c.new ≡ c.old)

abbrev pub Traces : Texts → Form → Place → Option ℕ → Change → Result Place Failure → Type 0
Traces x form start most c result = HasNoCursor start c result ⊎ TracesFrom x form start most c result

-- ---- the last entries, printed after the walk

-- printing makes no call
abbrev pub EndsPrinting : Ending → Type 0
EndsPrinting (Ok done) = Unit {0}
EndsPrinting (Err Failure.OutOfMemory) = Unit {0}
EndsPrinting (Err Failure.WriteFault) = Unit {0}
EndsPrinting (Err failure) = ⊥

-- The texts of these rows were printed, or the first of them, if memory ran out or the output failed; if the walk failed, nothing
-- was printed. A line has no reading or inventory.
abbrev pub PrintsAfter : Texts → EntryText → List Row → Result ℕ Failure → Change → Ending → Type 0
PrintsAfter x entries rows (Ok count) c ending = EndsPrinting ending
    × IsAllowed (IsPieceOver x c.seen'.store) (record {
      items = kept_items entries rows;
      end = Ok tt;
      end_points = [];
    }) c.old c.new ending
PrintsAfter x entries rows (Err failure) c ending = (ending ≡ Err failure) × (c.new ≡ c.old)

-- a walk from this place with a new cursor, which skips each entry; then the last n of the entries that it returned and that pass
-- the filters are printed
pub record TracesThen (x : Texts) (entries : EntryText) (n : ℕ) (start : Place) (c : Change) (ending : Ending) : Type 0 where
  pub begun : CursorState
  pub now : CursorState
  pub walked : Result ℕ Failure
  pub shelf : begun.shelf ≡ Sel
  pub place : begun.place ≡ start
  pub ids : begun.ids ≡ set.empty
  pub walk : TracesListing x Form.Skipped None begun now (change c.seen c.seen' c.old c.old) walked
  pub prints : PrintsAfter x entries (last_rows n (chosen entries.selection (handed_out walk.steps)) Done) walked c ending

-- without memory for the cursor, nothing was requested and nothing printed
abbrev pub TracesLast : Texts → EntryText → ℕ → Place → Change → Ending → Type 0
TracesLast x entries n start c ending =
    ((ending ≡ Err Failure.OutOfMemory) × (c.seen' ≡ c.seen) × (c.new ≡ c.old)) ⊎ TracesThen x entries n start c ending
