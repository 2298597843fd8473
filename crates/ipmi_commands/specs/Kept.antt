-- The last entries of a walk, kept in memory: for the contracts of private functions.
use Rattle.std.specs.Prelude.{◌≡◌, ◌⊎◌, ℕ, ◌+◌, ◌-◌, ◌≤◌, IsTrue, None, Option, IfOk, Result, Ok, Err, if◌then◌else◌, List, [], ◌∷◌, ◌++◌, drop, length, map, slice_get}
use Rattle.std.specs.FinSet as set
use Rattle.ipmi_commands.specs.Below.{CursorState, Done, Ending, Failure, handed_out, IsHonest, OnGrowing, Place, Row, Seen, Sel, Store, WalkEnd}
use Rattle.ipmi_commands.specs.declared.limits.Tries.{Tries}
use Rattle.ipmi_commands.specs.declared.job.EntryText.{EntryText}
use Rattle.ipmi_commands.specs.declared.job.Form.{Form}
use Rattle.ipmi_commands.specs.declared.kept.KeptEntry.{KeptEntry}
use Rattle.ipmi_commands.specs.Allowed.{cause_of, change, ending_of, EndsFor, IsAllowed}
use Rattle.ipmi_commands.specs.Calls.{walk_call_bound}
use Rattle.ipmi_commands.specs.Listing.{Lists}
use Rattle.ipmi_commands.specs.Meanwhile.{IsTextWhile}
use Rattle.ipmi_commands.specs.Output.{Output}
use Rattle.ipmi_commands.specs.Plan.{kept_items, kept_plan, OnWalk}
use Rattle.ipmi_selection.specs.Selection.{chosen, SelectedEntries, selects_entry}
use Rattle.ipmi_commands.specs.Texts.{IsListedEntry, IsPieceOver, Subject}
use Rattle.ipmi_commands.specs.Traced.{TracesListing}
use Rattle.ipmi_commands.specs.Format.{Texts}

-- the last n of some items, or all if there are fewer
abbrev pub last_of : {T : Type 0} → ℕ → List T → List T
last_of n items = drop (length items - n) items

-- the last of some items, if there are any
abbrev pub last_entry : {T : Type 0} → List T → Option T
last_entry items = slice_get items (length items - 1)

-- what is kept of an entry
abbrev pub kept_row : Row → KeptEntry
kept_row row = record { id = row.id; bytes = row.bytes }

-- the text of a kept entry is that of a row with its id and bytes
abbrev pub IsKeptText : Texts → EntryText → KeptEntry → List ℕ → Type 0
IsKeptText x entries entry text =
    IsListedEntry x entries (record { id = entry.id; next = 0; bytes = entry.bytes }) text

abbrev pub kept_rows : List Row → List KeptEntry
kept_rows rows = map kept_row rows

-- what is kept after one more row
abbrev pub kept_with : SelectedEntries → ℕ → List KeptEntry → Row → List KeptEntry
kept_with selection n kept row = if selects_entry selection row then last_of n (kept ++ kept_row row ∷ []) else kept

-- A walk by a cursor. It is a listing that skips each entry, so it leaves any output as it was. Over an honest controller,
-- the last n of the entries that it returned and that pass the filters were kept.
pub record KeepsByCursor (x : Texts) (selection : SelectedEntries) (n : ℕ) (tries : Tries) (begun now : CursorState) (s s' : Seen) (text : Output)
    (kept : List KeptEntry) (ending : Ending) : Type 0 where
  pub listed : Result ℕ Failure
  pub is : ending ≡ ending_of listed
  pub lists : Lists x Form.Skipped tries None begun now (change s s' text text) listed
  pub kept_are : (h : IsHonest s) → IfOk listed (λ count.
      kept ≡ last_of n (kept_rows (chosen selection (handed_out (lists.honest h).traces.steps))))

-- the last n entries of a walk that ends with `Done` were kept; or the run fails before it prints anything
abbrev pub Keeps : SelectedEntries → ℕ → (Subject → Output → Type 0) → Place → List Row → WalkEnd → Output → List KeptEntry → Ending
    → Type 0
Keeps selection n IsText start walk end text kept (Ok done) = (end ≡ Done) × (kept ≡ last_of n (kept_rows (chosen selection walk)))
Keeps selection n IsText start walk end text kept (Err failure) =
    (entries : EntryText) (most : ℕ) → IsAllowed IsText (kept_plan entries most start walk end) text text (Err failure)

-- the walk of the cursor that kept them
pub record KeepsFrom (x : Texts) (selection : SelectedEntries) (n : ℕ) (start : Place) (s s' : Seen) (text : Output) (kept : List KeptEntry) (ending : Ending) : Type 0 where
  pub begun : CursorState
  pub now : CursorState
  pub walked : Result ℕ Failure
  pub is : ending ≡ ending_of walked
  pub shelf : begun.shelf ≡ Sel
  pub place : begun.place ≡ start
  pub ids : begun.ids ≡ set.empty
  pub walk : TracesListing x Form.Skipped None begun now (change s s' text text) walked
  pub kept_are : IfOk walked (λ count. kept ≡ last_of n (kept_rows (chosen selection (handed_out walk.steps))))

pub record KeepsEntries (x : Texts) (selection : SelectedEntries) (n : ℕ) (start : Place) (tries : Tries) (s s' : Seen) (text : Output)
    (kept : List KeptEntry) (ending : Ending) : Type 0 where
  pub ends : EndsFor tries (IsTrue s.plain) s s' (cause_of ending)
  pub along : s'.stores_added ≡ s.stores_added
      → OnWalk Sel start s.store (λ walk end. Keeps selection n (IsPieceOver x s.store) start walk end text kept ending
      × (s'.calls ≤ s.calls + walk_call_bound Form.Skipped s.store tries walk))
  pub grows : OnGrowing Sel start s s' (λ log. Keeps selection n (IsTextWhile x s s') start log Done text kept ending)
  pub traces : ((ending ≡ Err Failure.OutOfMemory) × (s' ≡ s)) ⊎ KeepsFrom x selection n start s s' text kept ending

-- their lines were printed, those of rows with these ids and bytes
abbrev pub PrintsKept : Texts → EntryText → List KeptEntry → Output → Output → Ending → Type 0
PrintsKept x entries kept old new ending =
    (store : Store) (rows : List Row) → kept_rows rows ≡ kept
    → IsAllowed (IsPieceOver x store) (record { items = kept_items entries rows; end = Ok tt; end_points = [] }) old new ending
