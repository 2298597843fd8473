-- The last entries of the log on a walk that begins where its info suggests.
use Rattle.std.proofs.Common.{◌≡◌, ◌≢◌, ◌||◌, inl, inr, ℕ, ◌+◌, ◌-◌, ◌==◌, ◌≤◌, Bool, true, false, cond, IsTrue, Option, None, Some, Result, Ok, Err, List, [], ◌∷◌, ◌++◌, length, refl, sym, ap, subst, ◌∙◌, arith, length-append, length-drop, drop}
use Rattle.std.proofs.Math.Seq.{drop-append-add, drop-length}
use Rattle.std.proofs.lemmas.List.{length-map}
use Rattle.ipmi_commands.specs.Below.{Done, CycleAt, EndsBy, has_id, IsWalk, MissingAt, RestIsWalk, rows_of, WalkIsUnique, Ended, Ending, Failure, First, Id, info_of, IsHonest, Place, Row, Seen, Sel, sel_view_of, start_of, stays_refl, Store, WalkEnd}
use Rattle.ipmi_commands.specs.declared.kept.KeptEntry.{KeptEntry}
use Rattle.ipmi_commands.specs.declared.limits.Tries.{Tries}
use Rattle.ipmi_commands.specs.Kept.{kept_row, kept_rows, Keeps, KeepsEntries, last_of, PrintsKept}
use Rattle.ipmi_commands.specs.Output.{Output}
use Rattle.ipmi_command_line.specs.declared.filters.Filters.{Filters}
use Rattle.ipmi_selection.specs.Selection.{chosen, chosen_by, passes_entry}
use Rattle.ipmi_commands.specs.Prelude.{after_points, AtEnd, AtRecord, Cause, cause_of, change, Dishonest, EndsFor, EndsListing, EndsPrinting, end_points_of_last, EntryText, failure_of, Finds, Form, GaveUp, has_last, IsAllowed, IsAmong, IsPieceOver, IsStopAmong, is_tail, IsTailStart, IsTextWhile, Item, Job, LacksValue, kept_items, kept_plan, last_rows, Leaves, most_on_tail, most_on_walk, next_points, NoMemory, NoOutput, OnTail, OnTailFrom, OnTried, OnWhole, Plan, points_of_walk, Prints, ReadError, ReadPoint, Refused, rows_end, Runs, Subject, tail_from, TailsAreOfTheLog, walk_call_bound, with_first_points}
use Rattle.ipmi_commands.proofs.AskLemmas.{refuses_record}
use Rattle.ipmi_commands.proofs.CountLemmas.{between, ends_since}
use Rattle.ipmi_commands.proofs.ItemLemmas.{leaves_map, no_items}
use Rattle.ipmi_commands.proofs.KeptLemmas.{kept_failed, kept_run}
use Rattle.ipmi_commands.proofs.LastLemmas.{leaves_wide, next_points-first}
use Rattle.ipmi_commands.proofs.MeanwhileLemmas.{log_now, while_second}
use Rattle.ipmi_commands.proofs.PerformLemmas.{none_leaves}
use Rattle.ipmi_commands.proofs.PointLemmas.{among_after, among_before}
use Rattle.ipmi_commands.specs.Format.{Texts}

-- ---- every plan

-- a fact about each plan; the number of calls depends on the tries
module _ (entries : EntryText) (n : ℕ) (tries tries' : Tries) (store : Store) (Holds More : Plan → ℕ → Type 0)
    (keep : (plan : Plan) (calls : Tries → ℕ) → Holds plan (calls tries) → More plan (calls tries')) where
  whole_map : (points : List ReadPoint) (calls : Tries → ℕ) → OnWhole points (calls tries) entries n tries store Holds
      → OnWhole points (calls tries') entries n tries' store More
  whole_map points calls on = λ walk end w ends. keep _ (λ t. calls t + walk_call_bound Form.Skipped store t walk) (on walk end w ends)

  tried_map : (has : Bool) (id : ℕ) (walk : List Row) (end : WalkEnd) → OnTried has id walk end entries n tries store Holds
      → OnTried has id walk end entries n tries' store More
  tried_map true id walk end on = keep _ (λ t. t.count + 1 + walk_call_bound Form.Skipped store t walk) on
  tried_map false id walk end on =
      whole_map (AtRecord 0 ∷ points_of_walk (Id id) walk end) (λ t. t.count + 1 + walk_call_bound Form.Skipped store t walk) on

  from_map : (start : Option ℕ) → OnTailFrom start entries n tries store Holds → OnTailFrom start entries n tries' store More
  from_map None on = whole_map (AtRecord 0 ∷ []) (λ t. t.count + 1) on
  from_map (Some id) on = λ walk end w ends. tried_map (has_last n (chosen entries.selection walk) end) id walk end (on walk end w ends)

  pub tail_map : OnTail entries n tries store Holds → OnTail entries n tries' store More
  tail_map on = from_map (tail_from n (info_of Sel store)) on

-- the info is requested before anything is printed
module _ (entries : EntryText) (n : ℕ) (tries : Tries) (store : Store) (Holds : Plan → ℕ → Type 0)
    (holds : (points : List ReadPoint) (plan : Plan) (calls : ℕ) → tries.count + 1 ≤ calls → Holds (after_points (AtRecord 0 ∷ points) plan) calls) where
  tried_all : (has : Bool) (id : ℕ) (walk : List Row) (end : WalkEnd) → OnTried has id walk end entries n tries store Holds
  tried_all true id walk end = holds [] (kept_plan entries n (Id id) walk end) (tries.count + 1 + walk_call_bound Form.Skipped store tries walk) (omega arith)
  tried_all false id walk end = λ all at w ends. holds (points_of_walk (Id id) walk end) (kept_plan entries n First all at)
      (tries.count + 1 + walk_call_bound Form.Skipped store tries walk + walk_call_bound Form.Skipped store tries all) (omega arith)

  from_all : (start : Option ℕ) → OnTailFrom start entries n tries store Holds
  from_all None = λ walk end w ends. holds [] (kept_plan entries n First walk end) (tries.count + 1 + walk_call_bound Form.Skipped store tries walk) (omega arith)
  from_all (Some id) = λ walk end w ends. tried_all (has_last n (chosen entries.selection walk) end) id walk end

  pub tail_all : OnTail entries n tries store Holds
  tail_all = from_all (tail_from n (info_of Sel store))

-- ---- points

stop_wide : (points more : List ReadPoint) (cause : Cause) → ((point : ReadPoint) → IsAmong points point → IsAmong more point)
    → IsStopAmong points cause → IsStopAmong more cause
stop_wide points more (GaveUp point) wide stop = wide point stop
stop_wide points more (Refused point code) wide stop = wide point stop
stop_wide points more NoMemory wide stop = tt
stop_wide points more _ wide stop = absurd stop

one_among : (points : List ReadPoint) (point : ReadPoint) → IsAmong (AtRecord 0 ∷ []) point → IsAmong (AtRecord 0 ∷ points) point
one_among points point among = elim among [ inl at ↦ inl at | inr none ↦ absurd none ]

-- 0000h is requested for the first entry
first_among : (walk : List Row) (end : WalkEnd) (point : ReadPoint) → end ≡ Done → IsAmong (AtRecord 0 ∷ []) point
    → IsAmong (points_of_walk First walk end) point
first_among [] Done point is among = among
first_among (row ∷ walk) end point is among = elim among [ inl at ↦ inl at | inr none ↦ absurd none ]
first_among [] _ point is among = cc is

-- a plan that may also stop at other points before its first item
after_allowed : (IsText : Subject → Output → Type 0) (points : List ReadPoint) (plan : Plan) (old new : Output) (ending : Ending)
    → IsAllowed IsText plan old new ending → IsAllowed IsText (after_points points plan) old new ending
after_allowed IsText points plan old new ending allowed =
    leaves_wide IsText (points ++ next_points plan.items plan.end_points) plan plan.end_points plan.end refl
    (λ point among. among_after points (next_points plan.items plan.end_points) point among)
    old new ending ending (cause_of ending) (λ is. is) allowed

-- ---- a walk that stopped

none_left : {T : Type 0} (done rest : List T) → [] ≡ done ++ rest → rest ≡ []
none_left [] rest is = sym is
none_left (d ∷ done) rest is = cc is

no_last : (entries : EntryText) (rows : List Row) (end : WalkEnd) → kept_items entries (last_rows 0 rows end) ≡ []
no_last entries rows Done =
    let all : length rows - 0 ≡ length rows = omega arith in
    ap (kept_items entries) (ap (λ (k : ℕ). drop k rows) all ∙ drop-length rows)
no_last entries rows (CycleAt id) = refl
no_last entries rows (MissingAt id) = refl

-- it did not end as a walk does
no_end : (entries : EntryText) (n kept : ℕ) (walk : List Row) (end : WalkEnd) (failure : Failure) → is_tail n kept (Err failure) ≡ Err failure
    → Err failure ≡ rows_end (Form.Entry entries) walk end → ⊥
no_end entries n kept walk Done failure is at = cc at
no_end entries n kept walk (CycleAt id) failure is at =
    let of : failure ≡ Failure.Ended (Ended.Cycle id) = cc at in
    cc (subst (λ (f : Failure). is_tail n kept (Err f) ≡ Err f) of is)
no_end entries n kept walk (MissingAt id) failure is at =
    let of : failure ≡ Failure.Ended (Ended.Missing id) = cc at in
    cc (subst (λ (f : Failure). is_tail n kept (Err f) ≡ Err f) of is)

module _ (IsText : Subject → Output → Type 0) (entries : EntryText) (n kept : ℕ) (start : Place) (walk : List Row) (end : WalkEnd)
    (plan : Plan) (text : Output) (failure : Failure) (is : is_tail n kept (Err failure) ≡ Err failure) where
  abbrev vain : Plan
  vain = after_points (AtRecord 0 ∷ points_of_walk start walk end) plan

  abbrev empty : Plan
  empty = record { items = []; end = rows_end (Form.Entry entries) walk end; end_points = points_of_walk start walk end }

  stop_there : (rest : List Item) (point : ReadPoint) → rest ≡ [] → IsAmong (next_points rest (points_of_walk start walk end)) point
      → IsAmong (next_points vain.items vain.end_points) point
  stop_there rest point none among =
      rw (next_points-first ((AtRecord 0 ∷ points_of_walk start walk end) ++ next_points plan.items plan.end_points) plan.items plan.end_points)
      (inr (among_before (points_of_walk start walk end) (next_points plan.items plan.end_points) point (rw none at among)))

  stopped : (cause : Cause) → Leaves IsText empty text text (Err failure) cause → Leaves IsText vain text text (Err failure) cause
  stopped AtEnd leaves = absurd (no_end entries n kept walk end failure is leaves.1)
  stopped (GaveUp point) leaves =
      record { first = no_items IsText vain text text refl; there = stop_there leaves.first.rest point (none_left leaves.first.done leaves.first.rest leaves.first.items_are) leaves.there }
  stopped (Refused point code) leaves =
      record { first = no_items IsText vain text text refl; there = stop_there leaves.first.rest point (none_left leaves.first.done leaves.first.rest leaves.first.items_are) leaves.there }
  stopped NoMemory leaves = no_items IsText vain text text refl
  stopped NoOutput leaves = cc (sym leaves.next ∙ none_left leaves.first.done leaves.first.rest leaves.first.items_are)
  stopped Dishonest leaves = absurd leaves

  stopped_allowed : IsAllowed IsText (kept_plan entries 0 start walk end) text text (Err failure) → IsAllowed IsText vain text text (Err failure)
  stopped_allowed allowed =
      stopped (cause_of (Err failure)) (subst (λ (items : List Item). Leaves IsText (record {
        items = with_first_points (points_of_walk start walk end) items;
        end = rows_end (Form.Entry entries) walk end;
        end_points = end_points_of_last (points_of_walk start walk end) items [];
      }) text text (Err failure) (cause_of (Err failure))) (no_last entries (chosen entries.selection walk) end) allowed)

-- ---- whether a walk has the last entries

module _ (entries : EntryText) (n : ℕ) (IsText : Subject → Output → Type 0) (start : Place) (walk : List Row) (end : WalkEnd) (text : Output) (kept : List KeptEntry) where
  abbrev rows : List Row
  rows = chosen entries.selection walk

  kept_length : kept ≡ last_of n (kept_rows rows) → length kept ≡ length rows - (length rows - n)
  kept_length is = ap (length {A = KeptEntry}) is ∙ length-drop (length (kept_rows rows) - n) (kept_rows rows)
      ∙ ap (λ (size : ℕ). size - (size - n)) (length-map rows kept_row)

  has : Keeps entries.selection n IsText start walk end text kept (Ok tt) → is_tail n (length kept) (Ok tt) ≡ Ok true → has_last n rows end ≡ true
  has keeps is = rw keeps.0 (grind (arith, kept_length keeps.1))

  has_not : (walked : Ending) → Keeps entries.selection n IsText start walk end text kept walked → is_tail n (length kept) walked ≡ Ok false → has_last n rows end ≡ false
  has_not (Ok done) keeps is = rw keeps.0 (grind (arith, kept_length keeps.1))
  has_not (Err (Failure.Ended (Ended.Cycle id))) keeps is = ended end (keeps entries n).1
    where
      ended : (end : WalkEnd) → Err (Failure.Ended (Ended.Cycle id)) ≡ rows_end (Form.Entry entries) walk end → has_last n rows end ≡ false
      ended Done at = cc at
      ended (CycleAt id) at = refl
      ended (MissingAt id) at = refl
  has_not (Err (Failure.Ended (Ended.Missing id))) keeps is = ended end (keeps entries n).1
    where
      ended : (end : WalkEnd) → Err (Failure.Ended (Ended.Missing id)) ≡ rows_end (Form.Entry entries) walk end → has_last n rows end ≡ false
      ended Done at = cc at
      ended (CycleAt id) at = refl
      ended (MissingAt id) at = refl
  has_not (Err failure) keeps is = cc is

-- the walk after which the run goes on was neither given up nor refused
went_on : (n kept : ℕ) (has : Bool) (walked : Ending) → is_tail n kept walked ≡ Ok has → cause_of walked ≡ AtEnd
went_on n kept has (Ok done) is = refl
went_on n kept has (Err (Failure.Ended (Ended.Cycle id))) is = refl
went_on n kept has (Err (Failure.Ended (Ended.Missing id))) is = refl
went_on n kept has (Err failure) is = cc is

-- ---- the last entries of a part of the log

-- the entry with the id, and those after it
record Split (log : List Row) (id : ℕ) : Type 0 where
  before : List Row
  row : Row
  after : List Row
  are : log ≡ before ++ row ∷ after
  is : row.id ≡ id

split_next : (row : Row) (log : List Row) (id : ℕ) (same : Bool) → (id == row.id) ≡ same → (has_id log id ≡ true → Split log id)
    → ((id == row.id) || has_id log id) ≡ true → Split (row ∷ log) id
split_next row log id true same rest there =
    record { before = []; row = row; after = log; are = refl; is = grind arith }
split_next row log id false same rest there =
    let later = rest (rw same at there) in
    record { before = row ∷ later.before; row = later.row; after = later.after; are = ap (λ (l : List Row). row ∷ l) later.are; is = later.is }

split_at : (log : List Row) (id : ℕ) → has_id log id ≡ true → Split log id
split_at [] id there = cc there
split_at (row ∷ log) id there = split_next row log id (id == row.id) refl (λ later. split_at log id later) there

last_joined : (n : ℕ) (before rest : List Row) → n ≤ length rest → drop (length (before ++ rest) - n) (before ++ rest) ≡ drop (length rest - n) rest
last_joined n before rest few =
    let size : length (before ++ rest) - n ≡ length before + (length rest - n) = omega (arith, few, length-append before rest) in
    ap (λ (k : ℕ). drop k (before ++ rest)) size ∙ drop-append-add before rest (length rest - n)

few : (n : ℕ) (rows : List Row) → has_last n rows Done ≡ true → n ≤ length rows
few n rows enough = grind arith

chosen_joined : (filters : Option Filters) (before rest : List Row)
    → chosen_by filters (before ++ rest) ≡ chosen_by filters before ++ chosen_by filters rest
chosen_joined None before rest = refl
chosen_joined (Some filters) [] rest = refl
chosen_joined (Some filters) (row ∷ before) rest = by (passes_entry filters row.id (sel_view_of row.bytes)) (chosen_joined (Some filters) before rest)
  where
    by : (one : Bool) → chosen_by (Some filters) (before ++ rest) ≡ chosen_by (Some filters) before ++ chosen_by (Some filters) rest
        → cond one (row ∷ chosen_by (Some filters) (before ++ rest)) (chosen_by (Some filters) (before ++ rest))
        ≡ cond one (row ∷ chosen_by (Some filters) before) (chosen_by (Some filters) before) ++ chosen_by (Some filters) rest
    by true same = ap (λ (l : List Row). row ∷ l) same
    by false same = same

pub tails_of_log : WalkIsUnique → RestIsWalk → TailsAreOfTheLog
tails_of_log unique rest_is store selection n id log walk end ok is_log there some w ends enough =
    let rows = rows_of Sel store in
    let split = split_at log id there in
    let tail = split.row ∷ split.after in
    let rest = rest_is Sel rows First split.before split.row split.after ok.sel
    (subst (λ (l : List Row). IsWalk rows First l) split.are is_log.walks)
    (subst (λ (l : List Row). EndsBy rows First l Done) split.are is_log.ends) (subst (λ (k : ℕ). k ≢ 0) (sym split.is) some) in
    let one = unique Sel rows (Id id) walk tail end Done ok.sel w ends
    (subst (λ (k : ℕ). IsWalk rows (Id k) tail) split.is rest.0)
    (subst (λ (k : ℕ). EndsBy rows (Id k) tail Done) split.is rest.1) in
    let most = few n (chosen selection tail)
    (subst (λ (e : WalkEnd). has_last n (chosen selection tail) e ≡ true) one.1 (subst (λ (l : List Row). has_last n (chosen selection l) end ≡ true) one.0 enough)) in
    ap (λ (l : List Row). last_rows n (chosen selection l) end) one.0 ∙ ap (last_rows n (chosen selection tail)) one.1
    ∙ sym (last_joined n (chosen selection split.before) (chosen selection tail) most)
    ∙ ap (λ (l : List Row). last_rows n l Done) (sym (chosen_joined selection.filters split.before tail))
    ∙ ap (λ (l : List Row). last_rows n (chosen selection l) Done) (sym split.are)

-- by the result of the test
tail_ok : (n kept : ℕ) (walked : Ending) → is_tail n kept walked ≡ Ok true → (walked ≡ Ok tt) × (is_tail n kept (Ok tt) ≡ Ok true)
tail_ok n kept (Ok done) is = (refl, is)
tail_ok n kept (Err (Failure.Ended (Ended.Cycle id))) is = cc is
tail_ok n kept (Err (Failure.Ended (Ended.Missing id))) is = cc is
tail_ok n kept (Err failure) is = cc is

tail_err : (n kept : ℕ) (walked : Ending) (failure : Failure) → is_tail n kept walked ≡ Err failure
    → (walked ≡ Err failure) × (is_tail n kept (Err failure) ≡ Err failure)
tail_err n kept (Ok done) failure is = cc is
tail_err n kept (Err (Failure.Ended (Ended.Cycle id))) failure is = cc is
tail_err n kept (Err (Failure.Ended (Ended.Missing id))) failure is = cc is
tail_err n kept (Err other) failure is =
    let same : other ≡ failure = cc is in (cc same, subst (λ (f : Failure). is_tail n kept (Err f) ≡ Err f) same refl)

-- ---- the runs

unread_ends : (entries : EntryText) (unread : ReadError) (seen : Seen) → LacksValue unread seen
    → EndsListing (Form.Entry entries) seen (Err (failure_of unread))
unread_ends entries unread seen lacks = grind (arith, refuses_record)

module _ (x : Texts) (entries : EntryText) (n : ℕ) (tries : Tries) (s m : Seen) (asked : m.calls ≤ s.calls + (tries.count + 1)) where
  abbrev FoundStart : Result (Option ℕ) ReadError → Type 0
  FoundStart result = IsHonest s → Finds (λ store start. start ≡ tail_from n (info_of Sel store)) (AtRecord 0 ∷ []) tries s m result

  -- the info was not read
  pub start_unread : (text : Output) (unread : ReadError) → LacksValue unread m → FoundStart (Err unread)
      → Runs x (Job.Tail entries n) tries (change s m text text) (Err (failure_of unread))
  start_unread text unread lacks found = record {
    calls = omega (arith, asked);
    ends = unread_ends entries unread m lacks;
    why = λ h. (found h).asks.ends;
    prints = λ h same. tail_all entries n tries s.store
        (λ plan calls. IsAllowed (IsPieceOver x s.store) plan text text (Err (failure_of unread)) × (m.calls ≤ s.calls + calls))
        (λ points plan calls some.
        let all = points ++ next_points plan.items plan.end_points in (
          none_leaves (IsPieceOver x s.store) (after_points (AtRecord 0 ∷ points) plan) text (Err (failure_of unread))
              (rw (next_points-first (AtRecord 0 ∷ all) plan.items plan.end_points)
              (stop_wide (AtRecord 0 ∷ []) (AtRecord 0 ∷ all) (cause_of (Err (failure_of unread))) (one_among all) (found h).there)),
          omega (arith, asked, some),
        ));
    grows = λ h. (
      s,
      First,
      stays_refl s h,
      (found h).asks.ends.stays,
      tt,
      λ first log grew. (
        first,
        log_now s m (found h).asks.ends.stays.store h first log,
        none_leaves (IsTextWhile x s m) (kept_plan entries n First first Done) text (Err (failure_of unread))
            (rw (next_points-first (points_of_walk First first Done) (kept_items entries (last_rows n (chosen entries.selection first) Done)) [])
            (stop_wide (AtRecord 0 ∷ []) (points_of_walk First first Done) (cause_of (Err (failure_of unread))) (λ point among. first_among first Done point refl among) (found h).there)),
      ),
    );
    traces = λ h. inl ((found h).there, refl);
  }

  -- the walk from this start is printed; `b` is the state before it
  module _ (b s' : Seen) (old new : Output) (ending : Ending) where
    abbrev H : Plan → ℕ → Type 0
    H plan calls = IsAllowed (IsPieceOver x s.store) plan old new ending × (s'.calls ≤ s.calls + calls)

    tail_run : (from : Option ℕ) → s'.calls ≤ s.calls + most_on_tail tries
        → (IsHonest s → EndsFor tries (IsTrue s.plain) s b AtEnd)
        → (IsHonest s → IsTailStart n b.store (start_of from))
        → Runs x (Job.LastKept entries n from) tries (change b s' old new) ending
        → (IsHonest s → s'.stores_added ≡ s.stores_added → OnTail entries n tries s.store H)
        → Runs x (Job.Tail entries n) tries (change s s' old new) ending
    tail_run from calls before begins runs prints = record {
      calls = calls;
      ends = runs.ends;
      why = λ h. let first = before h in ends_since first first.stays.plain (runs.why first.stays.honest);
      prints = prints;
      grows = λ h.
          let first = (before h).stays in
          let later = (runs.why first.honest).stays in (
            b,
            start_of from,
            first,
            later,
            begins h,
            λ rows log grew.
                let g = runs.grows first.honest rows log grew in (
                  g.0,
                  g.1,
                  leaves_map (IsTextWhile x b s') (IsTextWhile x s s') (while_second x s b s' first.store later.store) (kept_plan entries n (start_of from) g.0 Done) old new ending (cause_of ending) g.2,
                ),
          );
      traces = λ h. let first = (before h).stays in inr (b, start_of from, first, begins h, runs.traces first.honest);
    }

    -- along the walk from the first entry
    whole_prints : (points : List ReadPoint) (calls : ℕ) → b.calls ≤ s.calls + calls → b.store ≡ s.store
        → Prints x (Job.LastKept entries n None) tries (change b s' old new) ending → OnWhole points calls entries n tries s.store H
    whole_prints points calls before same prints = λ walk end w ends.
        let on = (rw same at prints) walk end w ends in
        (after_allowed (IsPieceOver x s.store) points (kept_plan entries n First walk end) old new ending on.0, omega (arith, on.1, before))

  -- the info suggests no start
  pub tail_whole : (s' : Seen) (old new : Output) (ending : Ending) → FoundStart (Ok None)
      → Runs x (Job.LastKept entries n None) tries (change m s' old new) ending → Runs x (Job.Tail entries n) tries (change s s' old new) ending
  tail_whole s' old new ending found runs = tail_run m s' old new ending None (omega (arith, asked, runs.calls)) (λ h. (found h).asks.ends) (λ h. tt) runs (λ h same.
      let first = (found h).asks.ends.stays in
      let since = between s m s' first (runs.why first.honest).stays same in
      let store = first.store.stays since.0 in
      subst (λ (start : Option ℕ). OnTailFrom start entries n tries s.store (H m s' old new ending)) (rw store at ((found h).is tt))
      (whole_prints m s' old new ending (AtRecord 0 ∷ []) (tries.count + 1) asked store (runs.prints first.honest since.1)))

  module _ (id : ℕ) (found : FoundStart (Ok (Some id))) (b : Seen) (kept : List KeptEntry) (walked : Ending)
      (calls : b.calls ≤ m.calls + most_on_walk Form.Skipped tries)
      (keeps : IsHonest m → (text : Output) → KeepsEntries x entries.selection n (Id id) tries m b text kept walked) where
    abbrev after_info : (h : IsHonest s) → EndsFor tries (IsTrue s.plain) s m AtEnd
    after_info h = (found h).asks.ends

    after_walk : (has : Bool) → is_tail n (length kept) walked ≡ Ok has → Output → IsHonest s → EndsFor tries (IsTrue s.plain) s b AtEnd
    after_walk has is text h =
        let first = after_info h in
        ends_since first first.stays.plain (subst (EndsFor tries (IsTrue m.plain) m b) (went_on n (length kept) has walked is) (keeps first.stays.honest text).ends)

    -- the walk from the suggested id has the last entries
    pub tail_there : walked ≡ Ok tt → is_tail n (length kept) (Ok tt) ≡ Ok true → (old new : Output) (ending : Ending)
        → Runs x (Job.LastKept entries n (Some id)) tries (change m b old new) ending → Runs x (Job.Tail entries n) tries (change s b old new) ending
    tail_there done is old new ending runs = tail_run m b old new ending (Some id) (omega (arith, asked, runs.calls)) after_info (λ h. sym ((found h).is tt)) runs (λ h same.
        let first = (after_info h).stays in
        let since = between s m b first (runs.why first.honest).stays same in
        let store = first.store.stays since.0 in
        let along = rw store at ((keeps first.honest old).along since.1) in
        let prints = rw store at (runs.prints first.honest since.1) in
        subst (λ (start : Option ℕ). OnTailFrom start entries n tries s.store (H m b old new ending)) (rw store at ((found h).is tt))
        (λ walk end w ends.
        let on = prints walk end w ends in
        subst (λ (all : Bool). OnTried all id walk end entries n tries s.store (H m b old new ending))
        (sym (has entries n (IsPieceOver x s.store) (Id id) walk end old kept (rw done at (along walk end w ends).0) is))
        (after_allowed (IsPieceOver x s.store) (AtRecord 0 ∷ []) (kept_plan entries n (Id id) walk end) old new ending on.0, omega (arith, on.1, asked))))

    -- it does not have them
    pub tail_elsewhere : is_tail n (length kept) walked ≡ Ok false → (s' : Seen) (old new : Output) (ending : Ending)
        → Runs x (Job.LastKept entries n None) tries (change b s' old new) ending → Runs x (Job.Tail entries n) tries (change s s' old new) ending
    tail_elsewhere is s' old new ending runs = tail_run b s' old new ending None (omega (arith, asked, calls, runs.calls)) (after_walk false is old) (λ h. tt) runs (λ h same.
        let first = (after_info h).stays in
        let walk_ = (keeps first.honest old).ends.stays in
        let both = (after_walk false is old h).stays in
        let since = between s b s' both (runs.why both.honest).stays same in
        let parts = between s m b first walk_ since.0 in
        let store = first.store.stays parts.0 in
        let along = rw store at ((keeps first.honest old).along parts.1) in
        subst (λ (start : Option ℕ). OnTailFrom start entries n tries s.store (H b s' old new ending)) (rw store at ((found h).is tt))
        (λ walk end w ends.
        let on = along walk end w ends in
        subst (λ (all : Bool). OnTried all id walk end entries n tries s.store (H b s' old new ending))
        (sym (has_not entries n (IsPieceOver x s.store) (Id id) walk end old kept walked on.0 is))
        (whole_prints b s' old new ending (AtRecord 0 ∷ points_of_walk (Id id) walk end) (tries.count + 1 + walk_call_bound Form.Skipped s.store tries walk)
        (omega (arith, asked, on.1)) (both.store.stays since.0) (runs.prints both.honest since.1))))

    -- it failed
    pub tail_failed : (failure : Failure) → walked ≡ Err failure → is_tail n (length kept) (Err failure) ≡ Err failure → (text : Output)
        → EndsListing Form.Skipped b (Err failure) → Runs x (Job.Tail entries n) tries (change s b text text) (Err failure)
    tail_failed failure failed is text may =
        let of : (h : IsHonest m) (text : Output) → KeepsEntries x entries.selection n (Id id) tries m b text kept (Err failure) = rw failed at keeps in
        let runs = kept_failed x entries n (Some id) tries m b kept calls text failure may (λ h. of h text) in
        tail_run m b text text (Err failure) (Some id) (omega (arith, asked, calls)) after_info (λ h. sym ((found h).is tt)) runs (λ h same.
        let first = (after_info h).stays in
        let since = between s m b first (runs.why first.honest).stays same in
        let store = first.store.stays since.0 in
        let along = rw store at ((of first.honest text).along since.1) in
        subst (λ (start : Option ℕ). OnTailFrom start entries n tries s.store (H m b text text (Err failure))) (rw store at ((found h).is tt))
        (λ walk end w ends. let on = along walk end w ends in by walk end on.0 on.1 (has_last n (chosen entries.selection walk) end)))
      where
        by : (walk : List Row) (end : WalkEnd) → Keeps entries.selection n (IsPieceOver x s.store) (Id id) walk end text kept (Err failure)
            → b.calls ≤ m.calls + walk_call_bound Form.Skipped s.store tries walk → (all : Bool)
            → OnTried all id walk end entries n tries s.store (H m b text text (Err failure))
        by walk end stop walk_calls true =
            (after_allowed (IsPieceOver x s.store) (AtRecord 0 ∷ []) (kept_plan entries n (Id id) walk end) text text (Err failure) (stop entries n), omega (arith, asked, walk_calls))
        by walk end stop walk_calls false = λ rows at w ends.
            (stopped_allowed (IsPieceOver x s.store) entries n (length kept) (Id id) walk end (kept_plan entries n First rows at) text failure is (stop entries 0), omega (arith, asked, walk_calls))

    pub tail_found : is_tail n (length kept) walked ≡ Ok true → (old new : Output) (ending : Ending) → PrintsKept x entries kept old new ending
        → EndsPrinting ending → Runs x (Job.Tail entries n) tries (change s b old new) ending
    tail_found is old new ending prints may =
        let of = tail_ok n (length kept) walked is in
        tail_there of.0 of.1 old new ending
        (kept_run x entries n (Some id) tries m b kept calls old new ending prints may (λ h. subst (KeepsEntries x entries.selection n (Id id) tries m b old kept) of.0 (keeps h old)))

    pub tail_stopped : (failure : Failure) → is_tail n (length kept) walked ≡ Err failure → EndsListing Form.Skipped b walked → (text : Output)
        → Runs x (Job.Tail entries n) tries (change s b text text) (Err failure)
    tail_stopped failure is may text =
        let of = tail_err n (length kept) walked failure is in
        tail_failed failure of.0 of.1 text (subst (EndsListing Form.Skipped b) of.0 may)
