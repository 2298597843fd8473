-- What a listing prints of a walk that only grew.
use Rattle.std.proofs.Common.{◌≡◌, ◌≢◌, ℕ, ◌+◌, ◌≤◌, Option, Some, IfOk, Result, Ok, Err, List, [], ◌∷◌, ◌++◌, inl, inr, length, take, drop, refl, sym, ap, subst, ◌∙◌, arith, take-add, append-nil, append_assoc, length-append, length-take, length-take-le, take-append-drop}
use Rattle.std.proofs.Math.Seq.{drop-append_seam, take-append_seam}
use Rattle.ipmi_bus.proofs.GrowthLaws.{growth, Moment, moment, steps_stay}
use Rattle.ipmi_commands.specs.Below.{AllFollowOrStop, WasLog, AreSteps, asked_at, cursor_after, CursorState, Done, End, Ended, EndsBy, Ending, FailsAt, Failure, First, FollowsOrStops, handed_out, Id, IsHonest, IsLog, IsStep, last_next, OnlyGrew, place_after, Place, place_after_rows, Row, rows_of, Seen, seen_after, Shelf, StandsAt, start_of, StepLeaves, StaysHonest, Stepped, stays_refl, stays_trans, WalkEnd, with_handed}
use Rattle.ipmi_commands.specs.Meanwhile.{IsTextWhile, KeepsFor, OnGrowingListing}
use Rattle.ipmi_commands.specs.Traced.{EndsTrace, AreWithin, IsListed, IsWithin, PrintsSteps, ReturnsLast, Traces, TracesListing}
use Rattle.ipmi_commands.specs.declared.limits.RequestLimits.{RequestLimits}
use Rattle.ipmi_commands.specs.Prelude.{AtEnd, AtRecord, cause_of, Change, counted, ending_of, first_end, first_rows, Form, HasFirstItems, IsAllowed, IsAmong, IsFresh, Item, listing, listing_plan, next_points, Plan, Printed, row_items, rows_end, shelf_of, ReadPoint, points_at_walk_end, StopsAt, Subject}
use Rattle.ipmi_commands.specs.Output.{Output}
use Rattle.ipmi_commands.proofs.CallLemmas.{place_after_rows-append}
use Rattle.ipmi_commands.proofs.ItemLemmas.{cut_after, row_item, row_items-append, row_items-split, stops_after}
use Rattle.ipmi_commands.proofs.LimitLemmas.{drop_used, full_used, none_left, take_used}
use Rattle.ipmi_commands.proofs.ListingLemmas.{may_later}
use Rattle.ipmi_commands.proofs.MeanwhileLemmas.{steps_printed, text_while}
use Rattle.ipmi_commands.proofs.NameLemmas.{while_found, while_none}
use Rattle.ipmi_commands.proofs.PointLemmas.{asked_first, points_at_walk_end-joined}
use Rattle.ipmi_commands.proofs.TraceLemmas.{handed_joined}
use Rattle.ipmi_commands.specs.Format.{Texts}

-- ---- steps, and more steps

steps_joined : (c : CursorState) (s s' : Seen) (steps more : List Stepped) → AreSteps c s steps
    → StaysHonest (seen_after s steps) s' → AreSteps (cursor_after c steps) s' more → AreSteps c s (steps ++ more)
steps_joined c s s' [] [] are stays later = tt
steps_joined c s s' [] (step ∷ more) are stays later = (stays_trans s s' step.before stays later.0, later.1, later.2)
steps_joined c s s' (one ∷ steps) more are stays later = (are.0, are.1, steps_joined one.cursor one.seen s' steps more are.2 stays later)

cursor_joined : (c : CursorState) (steps more : List Stepped)
    → cursor_after c (steps ++ more) ≡ cursor_after (cursor_after c steps) more
cursor_joined c [] more = refl
cursor_joined c (one ∷ steps) more = cursor_joined one.cursor steps more

seen_joined : (s s' last : Seen) (steps more : List Stepped) → StaysHonest (seen_after s steps) s'
    → StaysHonest (seen_after s' more) last → StaysHonest (seen_after s (steps ++ more)) last
seen_joined s s' last [] [] stays later = stays_trans s s' last stays later
seen_joined s s' last [] (step ∷ more) stays later = later
seen_joined s s' last (one ∷ steps) more stays later = seen_joined one.seen s' last steps more stays later

-- all steps but the last, and the last
pub split_last : (c : CursorState) (s : Seen) (done : List Stepped) (step : Stepped) → AreSteps c s (done ++ step ∷ [])
    → AreSteps c s done × StaysHonest (seen_after s done) step.before
    × IsStep (cursor_after c done) step.cursor step.before step.seen step.result
split_last c s [] step are = (tt, are.0, are.1)
split_last c s (one ∷ done) step are = let rest = split_last one.cursor one.seen done step are.2 in ((are.0, are.1, rest.0), rest.1, rest.2)

seen_last : (s : Seen) (done : List Stepped) (step : Stepped) → seen_after s (done ++ step ∷ []) ≡ step.seen
seen_last s [] step = refl
seen_last s (one ∷ done) step = seen_last one.seen done step

-- a step that follows or stops has no other result
follows : (steps : List Stepped) (step : Stepped) → AllFollowOrStop (steps ++ step ∷ []) → FollowsOrStops step.result
follows [] step all = all.0
follows (one ∷ steps) step all = follows steps step all.1

-- given up or refused at the record that the cursor requests next
stops_there : (now next : CursorState) (n : ℕ) → FailsAt n now next → (n ≡ asked_at next.place) × (next.place ≢ End)
stops_there now next n f = (f.asked ∙ ap asked_at (sym f.stays.place), λ e. f.not_at_end (sym f.stays.place ∙ e))

-- ---- the end of a log

-- the place after a whole log that is not empty is the end
after_log : (next : ℕ) (walk : List Row) → last_next next walk ≡ 65535
    → place_after_rows (place_after next) walk ≡ End
after_log next [] is = ap place_after is
after_log next (row ∷ walk) is = after_log row.next walk is

-- a cursor that is after a whole log, and not at the end, is at the start of an empty one
before_log : (rows : List Row) (start : Place) (log : List Row) → EndsBy rows start log Done
    → place_after_rows start log ≢ End
    → IsAmong (points_at_walk_end start log Done) (AtRecord (asked_at (place_after_rows start log)))
before_log rows start (row ∷ log) ends open_ = absurd (open_ (after_log row.next log ends))
before_log rows First [] ends open_ = inl refl
before_log rows (Id n) [] ends open_ = absurd ends
before_log rows End [] ends open_ = absurd (open_ refl)

pub first_end-done : (form : Form) (most : Option ℕ) (rows : List Row) → first_end form most rows Done ≡ Done
first_end-done form most rows = grind arith

-- ---- a listing that begins after these steps

-- the rows returned before it, and those that it returned, are the first ones of the log as it was meanwhile; if the cursor is at
-- the end, they are all
pub record ListsGrown (x : Texts) (shelf : Shelf) (start : Place) (first : List Row) (s : Seen) (hp hs : List Row) (form : Form)
    (most : Option ℕ) (now : CursorState) (c : Change) (result : Result ℕ Failure) : Type 0 where
  pub log : List Row
  pub was : WasLog shelf start s c.seen' first log
  pub before : hp ≡ take (length hp) log
  pub enough : length hp ≤ length log
  pub whole : now.place ≡ End → hs ≡ drop (length hp) log
  pub allowed : IsAllowed (IsTextWhile x c.seen c.seen') (listing_plan (listing form (place_after_rows start hp) most) (drop (length hp) log) Done) c.old c.new (ending_of result)

module _ (x : Texts) (begun : CursorState) (s : Seen) (start : Place) (first : List Row) (honest : IsHonest s)
    (log : IsLog begun.shelf start s.store first)
    (stands : StandsAt (rows_of begun.shelf s.store) start first 0 begun)
    (pre : List Stepped) (made : AreSteps begun s pre) (form : Form) (most : Option ℕ) (now : CursorState) (c : Change)
    (since : StaysHonest (seen_after s pre) c.seen) (result : Result ℕ Failure)
    (trace : TracesListing x form most (cursor_after begun pre) now c result)
    (grew : OnlyGrew begun.shelf start s c.seen') (keeps : KeepsFor form c.seen c.seen') where
  abbrev all : List Stepped
  all = pre ++ trace.steps

  abbrev hp : List Row
  hp = handed_out pre

  abbrev hs : List Row
  hs = handed_out trace.steps

  made_all : AreSteps begun s all
  made_all = steps_joined begun s c.seen pre trace.steps made since trace.traced.are

  after_all : StaysHonest (seen_after s all) c.seen'
  after_all = seen_joined s c.seen c.seen' pre trace.steps since trace.traced.stays

  now_is : cursor_after begun all ≡ now
  now_is = cursor_joined begun pre trace.steps ∙ trace.traced.cursor

  handed_is : handed_out all ≡ hp ++ hs
  handed_is = handed_joined pre trace.steps

  m : Moment begun.shelf start first s c.seen' (cursor_after begun all) (handed_out all)
  m = moment begun s c.seen' start first honest log stands all made_all after_all grew

  all_follow : AllFollowOrStop all
  all_follow = (growth begun s c.seen' start first honest log stands all made_all after_all grew).1

  abbrev left : List Row
  left = drop (length hp) m.rows

  -- the rows returned before, and those returned by the listing, are the first ones
  begin_all : hp ++ hs ≡ take (length hp) m.rows ++ take (length hs) left
  begin_all =
      let n : length (handed_out all) ≡ length hp + length hs = ap (length {A = Row}) handed_is ∙ length-append hp hs in
      sym handed_is ∙ m.begins ∙ ap (λ (k : ℕ). take k m.rows) n ∙ take-add (length hp) (length hs) m.rows

  enough : length hp ≤ length m.rows
  enough =
      let n : length (handed_out all) ≡ length hp + length hs = ap (length {A = Row}) handed_is ∙ length-append hp hs in
      let few = ap (length {A = Row}) m.begins in
      let whole = ap (length {A = Row}) (take-append-drop (length (handed_out all)) m.rows) in
      omega (arith, n, few, whole, length-append (take (length (handed_out all)) m.rows) (drop (length (handed_out all)) m.rows))

  hp_is : hp ≡ take (length hp) m.rows
  hp_is =
      let len : length (take (length hp) m.rows) ≡ length hp = length-take-le (length hp) m.rows enough in
      sym (take-append_seam hp hs) ∙ ap (take (length hp)) begin_all
      ∙ ap (λ (k : ℕ). take k (take (length hp) m.rows ++ take (length hs) left)) (sym len) ∙ take-append_seam (take (length hp) m.rows) (take (length hs) left)

  hs_is : hs ≡ take (length hs) left
  hs_is =
      let len : length (take (length hp) m.rows) ≡ length hp = length-take-le (length hp) m.rows enough in
      sym (drop-append_seam hp hs) ∙ ap (drop (length hp)) begin_all
      ∙ ap (λ (k : ℕ). drop k (take (length hp) m.rows ++ take (length hs) left)) (sym len) ∙ drop-append_seam (take (length hp) m.rows) (take (length hs) left)

  abbrev place : Place
  place = place_after_rows start hp

  abbrev used : List Row
  used = first_rows form most left

  few_hs : length hs ≤ length left
  few_hs = omega (arith, ap (length {A = Row}) hs_is, length-take (length hs) left)

  within_left : AreWithin form most hs → AreWithin form most (take (length hs) left)
  within_left within = subst (AreWithin form most) hs_is within

  abbrev p : Plan
  p = listing_plan (listing form place most) left Done

  abbrev W : Subject → Output → Type 0
  W = IsTextWhile x c.seen c.seen'

  abbrev Allowed : Type 0
  Allowed = IsAllowed W p c.old c.new (ending_of result)

  hs_used : AreWithin form most hs → hs ≡ take (length hs) used
  hs_used within = hs_is ∙ sym (take_used form most (length hs) left few_hs (within_left within))

  abbrev rest : List Row
  rest = drop (length hs) used

  -- ---- all rows within the limit were listed

  all_used : (count : ℕ) → IsListed x form most now trace.steps c count → used ≡ hs
  all_used count listed = elim listed.done [
    | inl limit ↦ full_used form most (length hs) left few_hs (within_left listed.within) (limit ∙ ap Some (listed.count_is ∙ ap (counted form) hs_is)) ∙ sym hs_is
    | inr at_end ↦
        let whole : hp ++ hs ≡ m.rows = sym handed_is ∙ m.whole (ap (λ (x' : CursorState). x'.place) now_is ∙ at_end) in
        let left_is : left ≡ hs = ap (drop (length hp)) (sym whole) ∙ drop-append_seam hp hs in
        ap (first_rows form most) left_is ∙ listed.within
  ]

  stays : StaysHonest c.seen c.seen'
  stays = stays_trans c.seen (seen_after c.seen trace.steps) c.seen' (steps_stay (cursor_after begun pre) c.seen trace.steps since.honest trace.traced.are) trace.traced.stays

  printed_hs : PrintsSteps x form trace.steps c.seen' c.old c.new → Printed W (row_items form place hs) c.old c.new
  printed_hs printed = steps_printed x form c.seen c.seen' keeps (cursor_after begun pre) c.seen trace.steps place c.seen' c.old c.new
      (stays_refl c.seen since.honest) trace.traced.are trace.traced.stays (stays_refl c.seen' stays.honest) printed

  whole_allowed : (count : ℕ) → IsListed x form most now trace.steps c count → (ending : Ending)
      → cause_of ending ≡ AtEnd → ending ≡ rows_end form hs Done → IsAllowed W p c.old c.new ending
  whole_allowed count listed ending cause is =
      let same = all_used count listed in
      let end_is : p.end ≡ rows_end form hs Done = ap (λ (e : WalkEnd). rows_end form used e) (first_end-done form most left) ∙ ap (λ (l : List Row). rows_end form l Done) same in
      rw cause (subst (λ (l : List Row). Printed W (row_items form place l) c.old c.new) (sym same) (printed_hs listed.printed), is ∙ sym end_is)

  -- ---- a step failed

  items_hs : AreWithin form most hs → p.items ≡ row_items form place hs ++ row_items form (place_after_rows place hs) rest
  items_hs within = subst (λ (l : List Row). row_items form place used ≡ row_items form place l ++ row_items form (place_after_rows place l) rest) (sym (hs_used within))
      (row_items-split form place used (length hs))

  now_place : now.place ≢ End → now.place ≡ place_after_rows place hs
  now_place open_ =
      let at : (cursor_after begun all).place ≡ now.place = ap (λ (x' : CursorState). x'.place) now_is in
      sym at ∙ m.there (λ e. open_ (sym at ∙ e)) ∙ ap (place_after_rows start) handed_is ∙ place_after_rows-append start hp hs

  rows_are : hp ++ left ≡ m.rows
  rows_are = ap (λ (l : List Row). l ++ left) hp_is ∙ take-append-drop (length hp) m.rows

  -- all rows of the log were returned, and the cursor is not at the end: the log is empty
  at_last : AreWithin form most hs → IsWithin most (counted form hs + 1) → now.place ≢ End → rest ≡ []
      → IsAmong p.end_points (AtRecord (asked_at (place_after_rows place hs)))
  at_last within below open_ none =
      let taken = take (length hs) left in
      let under = subst (λ (n : ℕ). IsWithin most (n + 1)) (ap (counted form) hs_is) below in
      let over : drop (length hs) left ≡ [] = none_left form most (counted form taken) (drop (length hs) left) under (sym (drop_used form most (length hs) left few_hs (within_left within)) ∙ none) in
      let whole : hs ≡ left = hs_is ∙ sym (append-nil taken) ∙ ap (λ (l : List Row). taken ++ l) (sym over) ∙ take-append-drop (length hs) left in
      let there : place_after_rows place hs ≡ place_after_rows start m.rows =
      sym (place_after_rows-append start hp hs) ∙ ap (λ (l : List Row). place_after_rows start (hp ++ l)) whole ∙ ap (place_after_rows start) rows_are in
      let points : p.end_points ≡ points_at_walk_end start m.rows Done =
      ap (points_at_walk_end place left) (first_end-done form most left) ∙ points_at_walk_end-joined start hp left Done ∙ ap (λ (l : List Row). points_at_walk_end start l Done) rows_are in
      subst (λ (l : List ReadPoint). IsAmong l (AtRecord (asked_at (place_after_rows place hs)))) (sym points)
      (subst (λ (q : Place). IsAmong (points_at_walk_end start m.rows Done) (AtRecord (asked_at q))) (sym there)
      (before_log m.ends.0 start m.rows m.ends.1 (λ e. open_ (now_place open_ ∙ there ∙ e))))

  stops : AreWithin form most hs → IsWithin most (counted form hs + 1) → PrintsSteps x form trace.steps c.seen' c.old c.new → (n : ℕ)
      → (n ≡ asked_at now.place) × (now.place ≢ End) → StopsAt (AtRecord n) W p c.old c.new
  stops within below printed n at = record {
    first = record { done = row_items form place hs; rest = row_items form (place_after_rows place hs) rest; items_are = items_hs within; printed = printed_hs printed };
    there =
        let asked : AtRecord n ≡ AtRecord (asked_at (place_after_rows place hs)) = ap AtRecord (at.0 ∙ ap asked_at (now_place at.1)) in
        subst (IsAmong (next_points (row_items form (place_after_rows place hs) rest) p.end_points)) (sym asked)
        (asked_first form (place_after_rows place hs) rest p.end_points (at_last within below at.1));
  }

  never : (done : List Stepped) (step : Stepped) (ended : Ended) → trace.steps ≡ done ++ step ∷ [] → step.result ≡ Err ended
      → FollowsOrStops (Err ended)
  never done step ended are is =
      let last : all ≡ (pre ++ done) ++ step ∷ [] = ap (λ (l : List Stepped). pre ++ l) are ∙ sym (append_assoc pre done (step ∷ [])) in
      subst FollowsOrStops is (follows (pre ++ done) step (subst AllFollowOrStop last all_follow))

  -- the last step, which left the cursor as it is now
  failed_there : (done : List Stepped) (step : Stepped) (n : ℕ) (ended : Ended) → trace.steps ≡ done ++ step ∷ [] → step.result ≡ Err ended
      → ((old : CursorState) → StepLeaves old step.cursor (Err ended) → FailsAt n old step.cursor)
      → (n ≡ asked_at now.place) × (now.place ≢ End)
  failed_there done step n ended are is fails =
      let begun_here = cursor_after begun pre in
      let made = split_last begun_here c.seen done step (subst (AreSteps begun_here c.seen) are trace.traced.are) in
      let at : step.cursor ≡ now = sym (cursor_joined begun_here done (step ∷ [])) ∙ ap (cursor_after begun_here) (sym are) ∙ trace.traced.cursor in
      let leaves = subst (λ (r : Result (Option Row) Ended). StepLeaves (cursor_after begun_here done) step.cursor r) is made.2.leaves in
      subst (λ (x' : CursorState). (n ≡ asked_at x'.place) × (x'.place ≢ End)) at (stops_there (cursor_after begun_here done) step.cursor n (fails (cursor_after begun_here done) leaves))

  step_fails : (done : List Stepped) (step : Stepped) (ended : Ended) → AreWithin form most hs → IsWithin most (counted form hs + 1) → PrintsSteps x form trace.steps c.seen' c.old c.new
      → trace.steps ≡ done ++ step ∷ [] → step.result ≡ Err ended → IsAllowed W p c.old c.new (Err (Failure.Ended ended))
  step_fails done step (Ended.GaveUp n) within below printed are is = stops within below printed n (failed_there done step n (Ended.GaveUp n) are is (λ old leaves. leaves.1))
  step_fails done step (Ended.Refused n code) within below printed are is = stops within below printed n (failed_there done step n (Ended.Refused n code) are is (λ old leaves. leaves.1))
  step_fails done step (Ended.Cycle n) within below printed are is = absurd (never done step (Ended.Cycle n) are is)
  step_fails done step (Ended.Missing n) within below printed are is = absurd (never done step (Ended.Missing n) are is)
  step_fails done step (Ended.Stalled n) within below printed are is = absurd (never done step (Ended.Stalled n) are is)
  step_fails done step (Ended.Malformed n) within below printed are is = absurd (never done step (Ended.Malformed n) are is)

  -- ---- the text of the last record failed

  module _ (done : List Stepped) (step : Stepped) (row : Row) (last : ReturnsLast form most trace.steps done step row) where
    abbrev hd : List Row
    hd = handed_out done

    hs_last : hs ≡ hd ++ row ∷ []
    hs_last = ap handed_out last.are ∙ handed_joined done (step ∷ []) ∙ ap (λ (r : Result (Option Row) Ended). hd ++ with_handed r []) last.returned

    used_is : used ≡ hd ++ (row ∷ rest)
    used_is = sym (take-append-drop (length hs) used) ∙ ap (λ (l : List Row). l ++ rest) (sym (hs_used last.within) ∙ hs_last) ∙ append_assoc hd (row ∷ []) rest

    abbrev item : Item
    item = row_item form (place_after_rows place hd) row

    items_last : p.items ≡ row_items form place hd ++ (item ∷ row_items form (place_after row.next) rest)
    items_last = ap (row_items form place) used_is ∙ row_items-append form place hd (row ∷ rest)

    parts : AreSteps (cursor_after begun pre) c.seen done × StaysHonest (seen_after c.seen done) step.before
        × IsStep (cursor_after (cursor_after begun pre) done) step.cursor step.before step.seen step.result
    parts = split_last (cursor_after begun pre) c.seen done step (subst (AreSteps (cursor_after begun pre) c.seen) last.are trace.traced.are)

    to_step : StaysHonest step.seen c.seen'
    to_step = subst (λ (x' : Seen). StaysHonest x' c.seen') (ap (seen_after c.seen) last.are ∙ seen_last c.seen done step) trace.traced.stays

    made_step : StaysHonest step.before step.seen
    made_step = (parts.2.honest parts.1.honest).stays

    from_here : StaysHonest c.seen step.seen
    from_here = stays_trans c.seen step.before step.seen (stays_trans c.seen (seen_after c.seen done) step.before (steps_stay (cursor_after begun pre) c.seen done since.honest parts.0) parts.1) made_step

    abbrev before_it : (text : Output) → PrintsSteps x form done step.before c.old text → HasFirstItems W p c.old text
    before_it text printed = record {
      done = row_items form place hd;
      rest = item ∷ row_items form (place_after row.next) rest;
      items_are = items_last;
      printed = steps_printed x form c.seen c.seen' keeps (cursor_after begun pre) c.seen done place step.before c.old text
          (stays_refl c.seen since.honest) parts.0 parts.1 (stays_trans step.before step.seen c.seen' made_step to_step) printed;
    }

  prints : (r : Result ℕ Failure) → EndsTrace x form most now trace.steps c r → IsAllowed W p c.old c.new (ending_of r)
  prints (Ok count) ends = whole_allowed count ends.0 (Ok tt) refl (while_found x form c.seen c.seen' place hs c.old c.new (printed_hs ends.0.printed) ends.1)
  prints (Err failure) (inl fails) =
      subst (λ (f : Failure). IsAllowed W p c.old c.new (Err f)) (sym fails.is) (step_fails fails.done fails.step fails.ended fails.within fails.below fails.printed fails.are fails.returned)
  prints (Err failure) (inr (inl lost)) =
      stops_after W p c.old c.new (Err failure) (cause_of (Err failure)) (before_it lost.done lost.step lost.row lost.last c.new lost.printed)
      (may_later _ _ (cause_of (Err failure)) lost.there)
  prints (Err failure) (inr (inr (inl cut))) =
      subst (λ (f : Failure). IsAllowed W p c.old c.new (Err f)) (sym cut.is)
      (cut_after W p c.old cut.before c.new (Err Failure.WriteFault) (before_it cut.done cut.step cut.row cut.last cut.before cut.printed)
      (item cut.done cut.step cut.row cut.last) _ cut.text refl
      (text_while x form c.seen c.seen' keeps cut.row cut.step.seen c.seen' cut.text (from_here cut.done cut.step cut.row cut.last) (to_step cut.done cut.step cut.row cut.last) (stays_refl c.seen' stays.honest) cut.is_text)
      cut.some cut.part)
  prints (Err failure) (inr (inr (inr none))) =
      subst (λ (f : Failure). IsAllowed W p c.old c.new (Err f)) (sym none.is)
      (whole_allowed none.count none.listed (Err (Failure.NoName none.name)) refl
      (subst (λ (f : Form). Err (Failure.NoName none.name) ≡ rows_end f hs Done) (sym none.searched)
      (while_none x none.name c.seen c.seen' place hs c.old c.new
      (subst (λ (f : Form). Printed W (row_items f place hs) c.old c.new) none.searched (printed_hs none.listed.printed)) none.nothing)))

  pub grown_listing : ListsGrown x begun.shelf start first s hp hs form most now c result
  grown_listing = record {
    log = m.rows;
    was = m.was;
    before = hp_is;
    enough = enough;
    whole = λ at_end.
        let whole : hp ++ hs ≡ m.rows = sym handed_is ∙ m.whole (ap (λ (x' : CursorState). x'.place) now_is ∙ at_end) in
        sym (drop-append_seam hp hs) ∙ ap (drop (length hp)) whole;
    allowed = prints result trace.ends;
  }

-- ---- a new cursor

module _ (x : Texts) {limits : RequestLimits} {form : Form} {from : Option ℕ} {most : Option ℕ} {begun now : CursorState} {c : Change}
    {result : Result ℕ Failure} (fresh : IsFresh limits (shelf_of form) from begun)
    (trace : TracesListing x form most begun now c result) (honest : IsHonest c.seen) where
  shelf_is : begun.shelf ≡ shelf_of form
  shelf_is = ap (λ (x' : CursorState). x'.shelf) fresh.is

  pub fresh_grown : (first : List Row) → IsLog (shelf_of form) (start_of from) c.seen.store first
      → OnlyGrew (shelf_of form) (start_of from) c.seen c.seen' → KeepsFor form c.seen c.seen'
      → ListsGrown x (shelf_of form) (start_of from) first c.seen [] (handed_out trace.steps) form most now c result
  fresh_grown first log grew keeps =
      let on = subst (λ (x' : Shelf). IsLog x' (start_of from) c.seen.store first) (sym shelf_is) log in
      let only = subst (λ (x' : Shelf). OnlyGrew x' (start_of from) c.seen c.seen') (sym shelf_is) grew in
      let g = grown_listing x begun c.seen (start_of from) first honest on (fresh.stands (rows_of begun.shelf c.seen.store) first) [] tt form most now c (stays_refl c.seen honest) result trace only keeps in
      record {
        log = g.log;
        was = subst (λ (x' : Shelf). WasLog x' (start_of from) c.seen c.seen' first g.log) shelf_is g.was;
        before = g.before;
        enough = g.enough;
        whole = g.whole;
        allowed = g.allowed;
      }

  pub fresh_grows : OnGrowingListing (listing form (start_of from) most) c.seen c.seen'
      (λ plan. IsAllowed (IsTextWhile x c.seen c.seen') plan c.old c.new (ending_of result))
  fresh_grows = λ keeps first log grew. let g = fresh_grown first log grew keeps in (g.log, g.was, g.allowed)

  pub fresh_traces : (paged : Result Place Failure) → ending_of paged ≡ ending_of result → IfOk paged (λ place. place ≡ now.place)
      → Traces x form (start_of from) most c paged
  fresh_traces paged ending next = inr (record {
    begun = begun;
    now = now;
    listed = result;
    ending = ending;
    next = next;
    shelf = shelf_is;
    place = ap (λ (x' : CursorState). x'.place) fresh.is;
    ids = ap (λ (x' : CursorState). x'.ids) fresh.is;
    traces = trace;
  })
