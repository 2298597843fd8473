-- A listing in pages: each page has its own cursor, which starts where the page before it stopped.
use Rattle.std.specs.Prelude.{◌≡◌, ℕ, ◌+◌, ◌*◌, ◌<◌, ◌≤◌, ◌==◌, if◌then◌else◌, ◌⊎◌, IsTrue, Option, None, Some, IfOk, Result, Ok, Err, List, [], ◌∷◌}
use Rattle.std.specs.FinSet as set
use Rattle.ipmi_commands.specs.Below.{step_call_bound, digits, Place, First, End, Row, first_row, rows_of, WalkEnd, CycleAt, place_after_rows, CursorState, StandsAt, start_of, Seen, Shelf, Ending, Failure}
use Rattle.ipmi_commands.specs.declared.limits.Tries.{Tries}
use Rattle.ipmi_commands.specs.declared.job.Form.{Form}
use Rattle.ipmi_commands.specs.declared.limits.RequestLimits.{RequestLimits}
use Rattle.ipmi_commands.specs.Allowed.{IsAllowed, ending_of, EndsFor, cause_of, Change, change}
use Rattle.ipmi_commands.specs.Calls.{calls_for, walk_call_bound}
use Rattle.ipmi_commands.specs.Job.{shelf_of, listing}
use Rattle.ipmi_commands.specs.Meanwhile.{IsTextWhile, OnGrowingListing}
use Rattle.ipmi_commands.specs.Plan.{OnWalk, Plan, first_rows, listing_plan}
use Rattle.ipmi_commands.specs.Output.{Output}
use Rattle.ipmi_commands.specs.Texts.{IsPieceOver}
use Rattle.ipmi_commands.specs.Traced.{Traces}
use Rattle.ipmi_commands.specs.Format.{Texts}

-- the initial cursor over a shelf, at the id `from` or at the first record, with these limits
abbrev pub first_cursor : RequestLimits → Shelf → Option ℕ → CursorState
first_cursor limits shelf from = record {
  shelf = shelf;
  place = start_of from;
  part = limits.part;
  tries = limits.tries.count;
  ahead = limits.ahead;
  ids = set.empty;
  reservation = None;
}

-- the cursor is the initial one: its part size is at least 1 and has at most eight binary digits,
-- and it has returned no rows
pub record IsFresh (limits : RequestLimits) (shelf : Shelf) (from : Option ℕ)
    (cursor : CursorState) : Type 0 where
  pub is : cursor ≡ first_cursor limits shelf from
  pub some : 0 < cursor.part
  pub falls : digits cursor.part ≤ 8
  pub stands : (rows walk : List Row) → StandsAt rows (start_of from) walk 0 cursor

-- ---- a page

-- where a listing continues after these rows; on an empty shelf it may be the end instead of the
-- start
abbrev pub GoesOn : List Row → Place → List Row → Place → Type 0
GoesOn rows start used next =
    (next ≡ place_after_rows start used)
    ⊎ ((next ≡ End) × (start ≡ First) × (first_row rows ≡ None))

-- a page along the walk from its start: its output, its calls, and where the next page begins
pub record PageAlong (x : Texts) (form : Form) (start : Place) (tries : Tries) (most : Option ℕ) (c : Change)
    (result : Result Place Failure) (walk : List Row) (end : WalkEnd) : Type 0 where
  pub leaves : IsAllowed (IsPieceOver x c.seen.store)
      (listing_plan (listing form start most) walk end) c.old c.new (ending_of result)
  pub calls : c.seen'.calls ≤ c.seen.calls
      + walk_call_bound form c.seen.store tries (first_rows form most walk)
  pub goes_on : IfOk result (λ next. GoesOn (rows_of (shelf_of form) c.seen.store) start
      (first_rows form most walk) next)

-- a page of at most `most` records if that is Some, over an honest controller
pub record IsPage (x : Texts) (form : Form) (start : Place) (tries : Tries) (most : Option ℕ) (c : Change)
    (result : Result Place Failure) : Type 0 where
  pub ends : EndsFor tries (IsTrue c.seen.plain) c.seen c.seen' (cause_of (ending_of result))
  pub none : most ≡ Some 0 → c.seen' ≡ c.seen
  pub along : c.seen'.stores_added ≡ c.seen.stores_added
      → OnWalk (shelf_of form) start c.seen.store
      (λ walk end. PageAlong x form start tries most c result walk end)
  pub grows : OnGrowingListing (listing form start most) c.seen c.seen'
      (λ plan. IsAllowed (IsTextWhile x c.seen c.seen') plan c.old c.new (ending_of result))
  pub traces : Traces x form start most c result

-- ---- pages

-- a page, and then the rest of the listing
pub record PageThen (x : Texts) (form : Form) (start : Place) (tries : Tries) (size : ℕ) (s : Seen) (old : Output)
    (Rest : Place → Seen → Output → Type 0) : Type 0 where
  pub next : Place
  pub seen : Seen
  pub text : Output
  pub page : IsPage x form start tries (Some size) (change s seen old text) (Ok next)
  pub rest : Rest next seen text

-- pages of these sizes, then a page without a limit; a page that fails ends the listing
abbrev pub ArePages : Texts → Form → Tries → Place → List ℕ → Change → Ending → Type 0
ArePages x form tries start [] c ending =
    (result : Result Place Failure) × (ending ≡ ending_of result)
    × IsPage x form start tries None c result
ArePages x form tries start (size ∷ sizes) c ending =
    ((failure : Failure) × (ending ≡ Err failure)
    × IsPage x form start tries (Some size) c (Err failure))
    ⊎ PageThen x form start tries size c.seen c.old (λ next seen text.
    ArePages x form tries next sizes (change seen c.seen' text c.new) ending)

-- the number of pages that may make calls: those of a size above 0, and the last one
abbrev pub pages_made : List ℕ → ℕ
pages_made [] = 1
pages_made (size ∷ sizes) = if size == 0 then pages_made sizes else pages_made sizes + 1

-- ---- the theorem of pages

-- the walk does not end with a cycle
abbrev pub IsOpen : WalkEnd → Type 0
IsOpen (CycleAt n) = ⊥
IsOpen _ = Unit {0}

-- along a walk that does not end with a cycle, the pages have an output that is possible for one
-- listing: `after` gives the plan of the whole run; they take no more calls than `before`, for the
-- rows, and for each page that may make calls
abbrev pub IsOneListingAfter : Texts → (Plan → Plan) → ℕ → Form → Place → Tries → List ℕ → Change → Ending → Type 0
IsOneListingAfter x after before form start tries sizes c ending =
    OnWalk (shelf_of form) start c.seen.store (λ walk end. IsOpen end
    → IsAllowed (IsPieceOver x c.seen.store) (after (listing_plan (listing form start None) walk end))
    c.old c.new ending
    × (c.seen'.calls ≤ c.seen.calls + before + calls_for form c.seen.store tries walk
    + pages_made sizes * (step_call_bound tries.count 0 + 7)))

-- the pages alone
abbrev pub IsOneListing : Texts → Form → Place → Tries → List ℕ → Change → Ending → Type 0
IsOneListing x form start tries sizes c ending =
    IsOneListingAfter x (λ plan. plan) 0 form start tries sizes c ending
