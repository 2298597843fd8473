-- A listing, step by step of its cursor, with the piece of each record.
use Rattle.std.proofs.Common.{◌≡◌, ◌≢◌, ◌⊎◌, ℕ, ◌+◌, ◌<◌, ◌≤◌, true, false, IsTrue, Option, None, Some, IfOk, Result, Ok, Err, List, [], ◌∷◌, ◌++◌, ◌==◌, ◌||◌, not, length, take, drop, refl, sym, ap, subst, ◌∙◌, arith, take_all, length-drop, length-take-le, take-add, take-append-drop, Bool}
use Rattle.std.specs.FinSet as set
use Rattle.std.specs.FinSet.{len-empty}
use Rattle.std.specs.Ordering.{nat_cmp}
use Rattle.ipmi_commands.specs.Below.{End, First, first_row, handed_out, KeepsReservations, Shelf, current, Place, Ended, Row, StandsAt, Store, rows_of, MayFail, WalkEnd, Done, CycleAt, MissingAt, place_after, place_after_rows, Seen, IsHonest, CursorState, CursorHoldsCurrent, FailsAt, IsStep, NotGivenUpOrRefused, StepAnswers, StepIsHonest, asked_at, Ending, Failure, start_of}
use Rattle.ipmi_commands.specs.declared.limits.RequestLimits.{RequestLimits}
use Rattle.ipmi_commands.specs.Prelude.{AreWithin, AsksAt, AtEnd, AtRecord, Cause, cause_of, cause_of_unread, Change, change, counted, CountsSo, end_of, points_at_walk_end, ending_of, EndsFor, failure_of, FindsIt, FindsNone, first_end, first_rows, Form, HasFirstItems, IsAllowed, IsAmong, IsFine, IsFresh, IsOnWalk, is_reached, OnWalk, walk_call_bound, IsPieceOver, listing, listing_plan, Lists, ListsAlong, ListsHonestly, Item, IsStopAmong, most_after, most_for_one, IsWithin, OnEachWalk, Plan, Printed, row_items, rows_end, OfRow, shelf_of, ReadPoint, points_because_of, StopsAt, TracesListing, ReadError}
use Rattle.ipmi_commands.specs.Output.{and_then, IsCut, Output, piece_of}
use Rattle.ipmi_commands.specs.declared.limits.Tries.{Tries}
use Rattle.ipmi_commands.proofs.AlongLemmas.{fits, in_all, IsAlong, left_rows, one_more, row_is, stepped, StepsAlong, stopped_along, used}
use Rattle.ipmi_commands.proofs.AskLemmas.{asks_as}
use Rattle.ipmi_commands.proofs.CallLemmas.{HasCalled, at_limit, called_ended, called_more, called_stopped, calls_ended, not_at_limit, place_after_rows-append, within_more}
use Rattle.ipmi_commands.proofs.CountLemmas.{between, ends_since}
use Rattle.ipmi_commands.proofs.ItemLemmas.{cut_after, one_printed, printed_joined, row_item, row_items-next, row_items-split, stops_after}
use Rattle.ipmi_commands.proofs.LimitLemmas.{at_most_one, counted_split, counts_as, drop_used, first_end-below, first_end-reached, full_used, none_left, take_used, within_as}
use Rattle.ipmi_commands.proofs.MeanwhileLemmas.{keeps_at_same}
use Rattle.ipmi_commands.proofs.TraceLemmas.{traced_cut, traced_done, traced_done-handed, traced_ended, traced_full, traced_lost, traced_more, traced_more-handed, Tracing}
use Rattle.ipmi_commands.proofs.NameLemmas.{end_of-wrote, Wrote, wrote_more}
use Rattle.ipmi_commands.proofs.PointLemmas.{asked_first, end_point, points_at_walk_end-joined}
use Rattle.ipmi_commands.specs.Format.{Texts}

-- ---- the listed rows, if the cursor was after k rows of a walk

-- the place of the first of them, and the rows
abbrev from_here : Place → List Row → ℕ → Place
from_here start walk k = place_after_rows start (take k walk)

-- the place after the first of them
place_here : (form : Form) (most : Option ℕ) (size : ℕ) (start : Place) (walk : List Row) (k : ℕ)
    → size ≤ length (drop k walk) → AreWithin form most (take size (drop k walk))
    → place_after_rows (from_here start walk k) (take size (used form most walk k))
    ≡ place_after_rows start (take (k + size) walk)
place_here form most size start walk k few within =
    rw (take_used form most size (drop k walk) few within, take-add k size walk) (sym (place_after_rows-append start (take k walk) (take size (drop k walk))))

-- ---- the state so far

-- along a walk: the cursor, and the rows printed
pub record WentAlong (x : Texts) (form : Form) (tries : Tries) (most : Option ℕ) (size count : ℕ) (begun now : CursorState)
    (c : Change) (start : Place) (walk : List Row) (k : ℕ) : Type 0 where
  pub along : IsAlong form tries most size count begun now c.seen c.seen' start walk k
  pub are_printed : Printed (IsPieceOver x c.seen.store)
      (row_items form (from_here start walk k) (take size (used form most walk k))) c.old c.new

-- over an honest controller
pub record Went (x : Texts) (form : Form) (tries : Tries) (most : Option ℕ) (size count : ℕ) (begun now : CursorState)
    (c : Change) : Type 0 where
  pub ends : EndsFor tries (IsTrue c.seen.plain
      × CursorHoldsCurrent begun c.seen) c.seen c.seen' AtEnd
  pub holds : IsTrue c.seen.plain → CursorHoldsCurrent begun c.seen → CursorHoldsCurrent now c.seen'
  pub along : c.seen'.stores_added ≡ c.seen.stores_added
      → OnEachWalk (shelf_of form) begun c.seen.store
      (λ start walk end k. WentAlong x form tries most size count begun now c start walk k)
  pub tracing : Tracing x form most count begun now c

-- a listing that continues: of `size` records that the cursor returned the limit counted `count`
pub record Listed (x : Texts) (form : Form) (tries : Tries) (most : Option ℕ) (count : ℕ) (wrote : Bool)
    (begun now : CursorState) (c : Change) : Type 0 where
  pub shelf : now.shelf ≡ shelf_of form
  pub tries_are : now.tries ≡ tries.count
  pub size : ℕ
  pub called : HasCalled (most_for_one form tries) size begun now c.seen c.seen'
  pub fewer : count ≤ size
  pub within : IsWithin most count
  pub has_written : Wrote wrote c.old c.new
  pub went : IsHonest c.seen → Went x form tries most size count begun now c

-- ---- a step

-- the cause of an ending, from the result of a step
abbrev pub step_cause : Result (Option Row) Ended → Cause
step_cause (Ok row) = AtEnd
step_cause (Err ended) = cause_of (Err (Failure.Ended ended))

step_counts : (tries : Tries) (old : CursorState) (s s' : Seen) (result : Result (Option Row) Ended)
    → old.tries ≡ tries.count → StepAnswers old s s' result → (s.troubles ≤ s'.troubles)
    × CountsSo tries s s' (step_cause result)
step_counts tries old s s' result tries_are answers = grind arith

pub step_ends : (tries : Tries) (old new : CursorState) (s s' : Seen) (result : Result (Option Row) Ended)
    → old.tries ≡ tries.count → StepIsHonest old new s s' result
    → EndsFor tries (IsTrue s.plain × CursorHoldsCurrent old s) s s' (step_cause result)
step_ends tries old new s s' result tries_are step = let counts = step_counts tries old s s' result tries_are step.answers in record {
  stays = step.stays;
  grows = counts.0;
  counts = counts.1;
  plain = λ p. fine result (step.plain p.0 p.1).fine;
}
  where
    fine : (r : Result (Option Row) Ended) → NotGivenUpOrRefused r → IsFine (step_cause r)
    fine r is = grind arith

-- the place at which a step failed is on the walk
on_walk : (rows : List Row) (start now there : Place)
    → (now ≡ there) ⊎ ((now ≡ End) × (start ≡ First) × (first_row rows ≡ None)) → now ≢ End
    → now ≡ there
on_walk rows start now there at not_end = grind arith

pub current-kept : (shelf : Shelf) (s s' : Seen) → KeepsReservations s s'
    → current shelf s' ≡ current shelf s
current-kept shelf s s' keeps = grind arith

-- a stop at a later point is a stop at one of all points
pub may_later : (first : ReadPoint) (points : List ReadPoint) (cause : Cause) → IsStopAmong points cause
    → IsStopAmong (first ∷ points) cause
may_later first points cause may = grind arith

-- ---- the end of a listing

abbrev plan_here : Form → Option ℕ → Place → List Row → WalkEnd → ℕ → Plan
plan_here form most start walk end k = listing_plan (listing form (from_here start walk k) most) (drop k walk) end

abbrev LeavesHere : (x : Texts) → Store → Form → Option ℕ → Place → List Row → WalkEnd → ℕ → Output → Output
    → Ending
    → Type 0
LeavesHere x store form most start walk end k old new ending = IsAllowed (IsPieceOver x store) (plan_here form most start walk end k) old new ending

-- the first `size` rows were printed
abbrev PrintsFirst : (x : Texts) → Store → Form → Option ℕ → ℕ → Place → List Row → ℕ → Output → Output → Type 0
PrintsFirst x store form most size start walk k old new = Printed (IsPieceOver x store) (row_items form (from_here start walk k) (take size (used form most walk k))) old new

-- the items of the first rows, and those of the other rows
abbrev first_items : (x : Texts) → (form : Form) (store : Store) (most : Option ℕ) (size : ℕ) (start : Place)
    (walk : List Row) (end : WalkEnd) (k : ℕ) (old new : Output)
    → PrintsFirst x store form most size start walk k old new
    → HasFirstItems (IsPieceOver x store) (plan_here form most start walk end k) old new
first_items x form store most size start walk end k old new printed = record {
  done = row_items form (from_here start walk k) (take size (used form most walk k));
  rest = row_items form (place_after_rows (from_here start walk k) (take size (used form most walk k))) (left_rows form most size walk k);
  items_are = row_items-split form (from_here start walk k) (used form most walk k) size;
  printed = printed;
}

end_cause : (form : Form) (wrote : Bool) (count : ℕ) → cause_of
    (ending_of (end_of form wrote count)) ≡ AtEnd
end_cause form wrote count = grind arith

pub ok_end : {T : Type 0} (P : T → Type 0) (form : Form) (wrote : Bool) (value : T) → P value
    → IfOk (end_of form wrote value) P
ok_end P form wrote value holds = grind arith

module _ (x : Texts) {form : Form} {tries : Tries} {most : Option ℕ} {count : ℕ} {wrote : Bool}
    {begun now : CursorState} {s s' : Seen} {old new : Output}
    (kept : Listed x form tries most count wrote begun now (change s s' old new)) where
  -- all rows within the limit were listed
  all_listed : (store : Store) (start : Place) (walk : List Row) (end : WalkEnd) (k : ℕ)
      (e : WalkEnd)
      (result : Result ℕ Failure) → kept.size ≡ length (used form most walk k)
      → first_end form most (drop k walk) end ≡ e
      → cause_of (ending_of result) ≡ AtEnd
      → ((rows : List Row)
      → Printed (IsPieceOver x store) (row_items form (from_here start walk k) rows) old new
      → ending_of result ≡ rows_end form rows e)
      → PrintsFirst x store form most kept.size start walk k old new
      → LeavesHere x store form most start walk end k old new (ending_of result)
  all_listed store start walk end k e result size_is end_is cause ends_so printed =
      let all = rw (take_all kept.size (used form most walk k) (omega (arith, size_is))) at printed in rw (cause, end_is) (all, ends_so (used form most walk k) all)

  ends_by_name : (store : Store) (start : Place) (rows : List Row)
      → Printed (IsPieceOver x store) (row_items form start rows) old new
      → ending_of (end_of form wrote count) ≡ rows_end form rows Done
  ends_by_name store start rows printed = end_of-wrote x form wrote count store start rows old new printed kept.has_written

  -- the limit is reached
  pub listing_full : is_reached most count ≡ true
      → Lists x form tries most begun now (change s s' old new) (end_of form wrote count)
  listing_full full =
      let limit = at_limit most count full in
      record {
        keeps = kept.called.keeps;
        calls = called_stopped _ kept.size most begun now s s' (end_of form wrote count) kept.called;
        honest = λ h. let went = kept.went h in record {
          ends = rw (end_cause form wrote count) went.ends;
          holds = ok_end _ form wrote count went.holds;
          along = λ same start walk end k on.
              let there = went.along same start walk end k on in
              let rest = drop k walk in
              let all : used form most walk k ≡ take kept.size rest = full_used form most kept.size rest (fits there.along) there.along.within (limit ∙ ap Some there.along.count_is) in
              let size_is : kept.size ≡ length (used form most walk k) = sym (ap (length {A = Row}) all ∙ length-take-le kept.size rest (fits there.along)) in
              let reached : count ≤ counted form rest = omega (arith, there.along.count_is, counted_split form kept.size rest) in
              let end_is : first_end form most rest end ≡ Done = first_end-reached form most count rest end limit reached in
              record {
                leaves = all_listed s.store start walk end k Done (end_of form wrote count) size_is end_is (end_cause form wrote count) (ends_by_name s.store (from_here start walk k)) there.are_printed;
                calls = λ part. stopped_along there.along (kept.called.keeps.part part) part;
                all = ok_end _ form wrote count (record { count_is = there.along.count_is ∙ ap (counted form) (sym all); stands = subst (λ (n : ℕ). StandsAt (rows_of (shelf_of form) s.store) start walk (k + n) now) size_is there.along.stands; calls = λ limited. omega (arith, there.along.calls) });
              };
          traces = traced_full x wrote went.tracing limit kept.has_written;
        };
      }

  module _ {next : CursorState} {s'' : Seen} {result : Result (Option Row) Ended}
      (wanted : is_reached most count ≡ false) (step : IsStep now next s' s'' result) where
    below : IsWithin most (count + 1)
    below = within_more most count kept.within wanted

    honest_step : IsHonest s → StepIsHonest now next s' s'' result
    honest_step h = step.honest (kept.went h).ends.stays.honest

    all_ends : IsHonest s → EndsFor tries (IsTrue s.plain × CursorHoldsCurrent begun s) s s''
        (step_cause result)
    all_ends h =
        let went = kept.went h in
        ends_since went.ends (λ p. (went.ends.stays.plain p.0, went.holds p.0 p.1)) (step_ends tries now next s' s'' result kept.tries_are (honest_step h))

    holds_on : IsHonest s → IsTrue s.plain → CursorHoldsCurrent begun s
        → CursorHoldsCurrent next s''
    holds_on h p held = let went = kept.went h in ((honest_step h).plain (went.ends.stays.plain p) (went.holds p held)).holds

    module _ (h : IsHonest s) (same : s''.stores_added ≡ s.stores_added) {start : Place}
        {walk : List Row}
        {end : WalkEnd} {k : ℕ} (on : IsOnWalk (rows_of (shelf_of form) s.store) start walk end k begun) where
      parts : (s'.stores_added ≡ s.stores_added) × (s''.stores_added ≡ s'.stores_added)
      parts = between s s' s'' (kept.went h).ends.stays (honest_step h).stays same

      there : WentAlong x form tries most kept.size count begun now (change s s' old new) start walk k
      there = (kept.went h).along parts.0 start walk end k on

      -- the step along the walk
      here : StepsAlong form tries most kept.size count begun now next s s' s'' result start walk end k
      here = record {
        shelf = kept.shelf;
        tries_are = kept.tries_are;
        some = kept.called.keeps.part;
        below = below;
        stays = (kept.went h).ends.stays;
        first = parts.0;
        then_ = parts.1;
        on = on;
        there = there.along;
        step = step;
      }

      -- at the end of the walk
      whole : k + kept.size ≡ length walk → take kept.size (drop k walk) ≡ drop k walk
      whole all = take_all kept.size (drop k walk) (omega (arith, length-drop k walk, all))

      used_all : k + kept.size ≡ length walk → used form most walk k ≡ drop k walk
      used_all all = subst (AreWithin form most) (whole all) there.along.within

      size_all : k + kept.size ≡ length walk → kept.size ≡ length (used form most walk k)
      size_all all = omega (arith, length-drop k walk, all, ap (length {A = Row}) (used_all all))

      below_all : k + kept.size ≡ length walk → IsWithin most (counted form (drop k walk) + 1)
      below_all all = subst (λ (n : ℕ). IsWithin most (n + 1)) (there.along.count_is ∙ ap (counted form) (whole all)) below

      at_its_end : (e : WalkEnd) (listed : Result ℕ Failure) → k + kept.size ≡ length walk → end ≡ e
          → cause_of (ending_of listed) ≡ AtEnd
          → ((rows : List Row)
          → Printed (IsPieceOver x s.store) (row_items form (from_here start walk k) rows) old new
          → ending_of listed ≡ rows_end form rows e)
          → LeavesHere x s.store form most start walk end k old new (ending_of listed)
      at_its_end e listed all is cause ends_so =
          all_listed s.store start walk end k e listed (size_all all) (first_end-below form most (drop k walk) end (below_all all) ∙ is) cause ends_so there.are_printed

      -- if no row within the limit is left, the walk is at its end
      at_last : left_rows form most kept.size walk k ≡ [] → k + kept.size ≡ length walk
      at_last none =
          let rest = drop k walk in
          let left = sym (drop_used form most kept.size rest (fits there.along) there.along.within) ∙ none in
          let under : IsWithin most (counted form (take kept.size rest) + 1) = subst (λ (n : ℕ). IsWithin most (n + 1)) there.along.count_is below in
          let over : drop kept.size rest ≡ [] = none_left form most (counted form (take kept.size rest)) (drop kept.size rest) under left in
          omega (arith, ap (length {A = Row}) over, length-drop kept.size rest, there.along.stands.within, length-drop k walk)

      -- the step returned no record
      where_asked : (n : ℕ) → FailsAt n now next → (k + kept.size ≡ length walk → MayFail end now.place)
          → StopsAt (AtRecord n) (IsPieceOver x s.store) (plan_here form most start walk end k) old new
      where_asked n fails may =
          let rows = rows_of (shelf_of form) s.store in
          let at = from_here start walk k in
          let rest = drop k walk in
          let now_is = on_walk rows start now.place (place_after_rows start (take (k + kept.size) walk)) there.along.stands.place fails.not_at_end in
          let place = place_here form most kept.size start walk k (fits there.along) there.along.within in
          let past : left_rows form most kept.size walk k ≡ [] → IsAmong (points_at_walk_end at rest (first_end form most rest end)) (AtRecord (asked_at (place_after_rows at (take kept.size (used form most walk k))))) = λ none.
          let all : k + kept.size ≡ length walk = at_last none in
          let over = take_all (k + kept.size) walk (omega (arith, all)) in
          let joined : points_at_walk_end at rest end ≡ points_at_walk_end start walk end = points_at_walk_end-joined start (take k walk) rest end ∙ ap (λ (l : List Row). points_at_walk_end start l end) (take-append-drop k walk) in
          rw (first_end-below form most rest end (below_all all), joined, place, over) (end_point rows start walk end on.ends (rw (now_is, over) at (may all))) in
          let asked : AtRecord n ≡ AtRecord (asked_at (place_after_rows at (take kept.size (used form most walk k)))) = ap AtRecord (fails.asked ∙ ap asked_at (now_is ∙ sym place)) in
          record {
            first = first_items x form s.store most kept.size start walk end k old new there.are_printed;
            there = rw asked (asked_first form (place_after_rows at (take kept.size (used form most walk k))) (left_rows form most kept.size walk k) (points_at_walk_end at rest (first_end form most rest end)) past);
          }

  module _ {next : CursorState} {s'' : Seen} (wanted : is_reached most count ≡ false) where
    -- the cursor returned no record, for this reason
    pub listing_ended : (ended : Ended) → IsStep now next s' s'' (Err ended)
        → Lists x form tries most begun next (change s s'' old new) (Err (Failure.Ended ended))
    listing_ended ended step = record {
      keeps = called_ended (most_after form tries) refl kept.shelf kept.tries_are kept.called step tt;
      calls = calls_ended (most_after form tries) refl kept.shelf kept.tries_are kept.called step most _ tt tt;
      honest = λ h. record {
        ends = all_ends wanted step h;
        holds = tt;
        along = λ same start walk end k on. record { leaves = leaves h same on ended step; calls = in_all (here wanted step h same on); all = tt };
        traces = traced_ended x (kept.went h).tracing ended step (kept.went h).ends.stays.honest (below wanted step);
      };
    }
      where
        leaves : (h : IsHonest s) → s''.stores_added ≡ s.stores_added
            → {start : Place} {walk : List Row} {end : WalkEnd} {k : ℕ}
            → IsOnWalk (rows_of (shelf_of form) s.store) start walk end k begun → (e : Ended)
            → IsStep now next s' s'' (Err e)
            → LeavesHere x s.store form most start walk end k old new (Err (Failure.Ended e))
        leaves h same on (Ended.Cycle n) step = let at = stepped (here wanted step h same on) in at_its_end wanted step h same on (CycleAt n) (Err (Failure.Ended (Ended.Cycle n))) at.0 at.1 refl (λ rows printed. refl)
        leaves h same on (Ended.Missing n) step = let at = stepped (here wanted step h same on) in at_its_end wanted step h same on (MissingAt n) (Err (Failure.Ended (Ended.Missing n))) at.0 at.1 refl (λ rows printed. refl)
        leaves h same on (Ended.GaveUp n) step = where_asked wanted step h same on n step.leaves.1 (stepped (here wanted step h same on)).1
        leaves h same on (Ended.Refused n code) step = where_asked wanted step h same on n step.leaves.1 (stepped (here wanted step h same on)).1
        leaves h same on _ step = absurd ((honest_step wanted step h).answers)

    pub listing_done : IsStep now next s' s'' (Ok None)
        → Lists x form tries most begun next (change s s'' old new) (end_of form wrote count)
    listing_done step = record {
      keeps = called_ended (most_after form tries) refl kept.shelf kept.tries_are kept.called step tt;
      calls = calls_ended (most_after form tries) refl kept.shelf kept.tries_are kept.called step most _ tt (ok_end _ form wrote count (λ limit. absurd (not_at_limit most count wanted limit)));
      honest = λ h. record {
        ends = rw (end_cause form wrote count) (all_ends wanted step h);
        holds = ok_end _ form wrote count (holds_on wanted step h);
        along = λ same start walk end k on.
            let at = stepped (here wanted step h same on) in
            record {
              leaves = at_its_end wanted step h same on Done (end_of form wrote count) at.0 at.1 (end_cause form wrote count) (ends_by_name s.store (from_here start walk k));
              calls = in_all (here wanted step h same on);
              all = ok_end _ form wrote count (record {
                count_is = (there wanted step h same on).along.count_is ∙ ap (counted form) (whole wanted step h same on at.0 ∙ sym (used_all wanted step h same on at.0));
                stands = subst (λ (n : ℕ). StandsAt (rows_of (shelf_of form) s.store) start walk (k + n) next) (size_all wanted step h same on at.0) at.2;
                calls = λ limit. absurd (not_at_limit most count wanted limit);
              });
            };
        traces = traced_done x wrote (kept.went h).tracing step (kept.went h).ends.stays.honest kept.has_written;
      };
    }

    pub listing_done-handed : (step : IsStep now next s' s'' (Ok None)) (h : IsHonest s)
        → handed_out ((listing_done step).honest h).traces.steps ≡ handed_out (kept.went h).tracing.steps
    unfolding listing_done
    listing_done-handed step h = traced_done-handed x wrote (kept.went h).tracing step (kept.went h).ends.stays.honest kept.has_written

    -- ---- a record was returned, and its piece was requested

    module _ {row : Row} {last : Seen} (step : IsStep now next s' s'' (Ok (Some row)))
        (asked : last.calls ≤ s''.calls + most_after form tries) where
      more_called : HasCalled (most_for_one form tries) (kept.size + 1) begun next s last
      more_called = called_more (most_after form tries) refl kept.shelf kept.tries_are kept.called step last refl asked

      module _ {cause : Cause} (asks : IsHonest s''
          → AsksAt (points_because_of form row) tries s'' last cause) (h : IsHonest s) where
        piece_asked : AsksAt (points_because_of form row) tries s'' last cause
        piece_asked = asks (honest_step wanted step h).stays.honest

        piece_ends : EndsFor tries (IsTrue s.plain × CursorHoldsCurrent begun s) s last cause
        piece_ends = ends_since (all_ends wanted step h) (λ p. (all_ends wanted step h).stays.plain p.0) piece_asked.ends

        apart : last.stores_added ≡ s.stores_added → (s''.stores_added ≡ s.stores_added)
            × (last.stores_added ≡ s''.stores_added)
        apart same = between s s'' last (all_ends wanted step h).stays piece_asked.ends.stays same

        store_is : last.stores_added ≡ s.stores_added → s''.store ≡ s.store
        store_is same = (all_ends wanted step h).stays.store.stays (apart same).0

        module _ (same : last.stores_added ≡ s.stores_added) {start : Place} {walk : List Row}
            {end : WalkEnd}
            {k : ℕ} (on : IsOnWalk (rows_of (shelf_of form) s.store) start walk end k begun) where
          from_row : StepsAlong form tries most kept.size count begun now next s s' s'' (Ok (Some row)) start walk end k
          from_row = here wanted step h (apart same).0 on

          on_more : IsAlong form tries most (kept.size + 1) (count + counts_as form row) begun next s last start walk k
          on_more = one_more from_row last (rw (store_is same) at (piece_asked.calls (keeps_at_same (points_because_of form row) s'' last piece_asked.ends.stays.store (apart same).1)))

          -- the output before it
          abbrev before : HasFirstItems (IsPieceOver x s.store)
              (plan_here form most start walk end k) old new
          before = first_items x form s.store most kept.size start walk end k old new (there wanted step h (apart same).0 on).are_printed

          at_item : before.rest ≡ row_item form
              (place_after_rows (from_here start walk k) (take kept.size (used form most walk k))) row
              ∷ row_items form (place_after row.next) (left_rows form most (kept.size + 1) walk k)
          at_item = rw (row_is from_row) refl

      -- the listing stops at it
      stopped : (failure : Failure) (text : Output) → (IsHonest s''
          → AsksAt (points_because_of form row) tries s'' last (cause_of (Err failure)))
          → (IsHonest s → last.stores_added ≡ s.stores_added → (p : Plan)
          (first : HasFirstItems (IsPieceOver x s.store) p old new) (place : Place) (later : List Item)
          → first.rest ≡ row_item form place row ∷ later
          → IsAllowed (IsPieceOver x s.store) p old text (Err failure))
          → (IsHonest s → TracesListing x form most begun next (change s last old text) (Err failure))
          → Lists x form tries most begun next (change s last old text) (Err failure)
      stopped failure text asks leaves traces = record {
        keeps = more_called.keeps;
        calls = called_stopped _ (kept.size + 1) most begun next s last (Err failure) more_called;
        honest = λ h. record {
          ends = piece_ends asks h;
          holds = tt;
          along = λ same start walk end k on. record {
            leaves = leaves h same (plan_here form most start walk end k) (before asks h same on) (place_after_rows (from_here start walk k) (take kept.size (used form most walk k)))
                (row_items form (place_after row.next) (left_rows form most (kept.size + 1) walk k)) (at_item asks h same on);
            calls = stopped_along (on_more asks h same on) step.same.part_not_zero;
            all = tt;
          };
          traces = traces h;
        };
      }

      -- the piece was not found
      pub listing_none : (unread : ReadError) → (IsHonest s''
          → FindsNone (points_because_of form row) tries s'' last (cause_of_unread unread))
          → Lists x form tries most begun next (change s last old new) (Err (failure_of unread))
      listing_none unread none = stopped (failure_of unread) new (λ h. (none h).asks) (λ h same p first place later at.
          stops_after (IsPieceOver x s.store) p old new (Err (failure_of unread)) (cause_of_unread unread) first
          (rw at (may_later (AtRecord (asked_at place)) (points_because_of form row) (cause_of_unread unread) (none (honest_step wanted step h).stays.honest).there)))
          (λ h.
          let lost = none (honest_step wanted step h).stays.honest in
          traced_lost x (kept.went h).tracing step last lost.asks.ends.stays (below wanted step) unread lost.there)

      module _ (bytes : List ℕ) (has_fault : Bool) (finds : IsHonest s''
          → FindsIt (λ store. IsPieceOver x store (OfRow form row) (piece_of bytes has_fault))
          (points_because_of form row) tries s'' last) where
        abbrev piece_text : Output
        piece_text = piece_of bytes has_fault

        is_text : IsHonest s → last.stores_added ≡ s.stores_added
            → IsPieceOver x s.store (OfRow form row) piece_text
        is_text h same =
            let found = finds (honest_step wanted step h).stays.honest in
            let none = (apart (λ h. (finds h).asks) h same).1 in
            let stays = found.asks.ends.stays.store in
            rw (stays.stays none ∙ store_is (λ h. (finds h).asks) h same) at (found.is (keeps_at_same (points_because_of form row) s'' last stays none))

        -- a part of the piece was written
        pub listing_cut : (text : Output) → 0 < length piece_text.bytes → IsCut new text piece_text
            → Lists x form tries most begun next (change s last old text) (Err Failure.WriteFault)
        listing_cut text some part = stopped Failure.WriteFault text (λ h. asks_as (finds h).asks (finds h).asks.ends.counts tt) (λ h same p first place later at.
            cut_after (IsPieceOver x s.store) p old new text (Err Failure.WriteFault) first (row_item form place row) later piece_text at (is_text h same) some part)
            (λ h.
            let found = finds (honest_step wanted step h).stays.honest in
            traced_cut x (kept.went h).tracing step last found.asks.ends.stays (below wanted step) text piece_text found.is some part)

        -- the piece was written
        pub listing_more : (text : Output) → text ≡ and_then new piece_text
            → Listed x form tries most (count + counts_as form row) (wrote || not (length bytes == 0)) begun next
            (change s last old text)
        listing_more text is = record {
          shelf = step.same.shelf ∙ kept.shelf;
          tries_are = step.same.tries ∙ kept.tries_are;
          size = kept.size + 1;
          called = more_called;
          fewer = omega (arith, kept.fewer, at_most_one form row);
          within = within_as most count form row (below wanted step);
          has_written = wrote_more wrote old new text bytes has_fault kept.has_written is;
          went = λ h.
              let asks = λ (h' : IsHonest s''). (finds h').asks in
              record {
                ends = piece_ends asks h;
                holds = λ p held. record { held = λ n is. current-kept next.shelf s'' last ((piece_asked asks h).keeps ((all_ends wanted step h).stays.plain p)) ∙ (holds_on wanted step h p held).held n is };
                along = λ same start walk end k on.
                    let first = (apart asks h same).0 in
                    let at = from_here start walk k in
                    record {
                      along = on_more asks h same on;
                      are_printed = rw (row_items-next form at (used form most walk k) kept.size row _ (row_is (from_row asks h same on)))
                          (printed_joined (IsPieceOver x s.store) (row_items form at (take kept.size (used form most walk k))) _ old new text
                          (there wanted step h first on).are_printed
                          (one_printed (IsPieceOver x s.store) (row_item form (place_after_rows at (take kept.size (used form most walk k))) row) piece_text new text (is_text h same) is));
                    };
                tracing =
                    let found = finds (honest_step wanted step h).stays.honest in
                    traced_more x (kept.went h).tracing step last found.asks.ends.stays (below wanted step) text piece_text found.is is;
              };
        }

        pub listing_more-handed : (text : Output) (is : text ≡ and_then new piece_text) (h : IsHonest s)
            → handed_out ((listing_more text is).went h).tracing.steps ≡ handed_out (kept.went h).tracing.steps ++ row ∷ []
        unfolding listing_more
        listing_more-handed text is h =
            let found = finds (honest_step wanted step h).stays.honest in
            traced_more-handed x (kept.went h).tracing step last found.asks.ends.stays (below wanted step) text piece_text found.is is

-- ---- a new cursor

module _ {limits : RequestLimits} {shelf : Shelf} {from : Option ℕ} {begun : CursorState}
    (fresh : IsFresh limits shelf from begun) where
  -- it holds no reservation, and has returned no record
  pub holds_none : (s : Seen) → CursorHoldsCurrent begun s
  holds_none s = record { held = λ n held. let h = sym (ap (λ (x : CursorState). x.reservation) fresh.is) ∙ held in cc h }

  pub no_ids : set.len begun.ids ≡ 0
  no_ids = rw fresh.is (len-empty nat_cmp)

  pub fresh_room : set.len begun.ids ≤ 65536
  fresh_room = rw no_ids (omega arith)

module _ (x : Texts) {limits : RequestLimits} {form : Form} {from : Option ℕ} {begun now : CursorState}
    {tries : Tries} {most : Option ℕ}
    {c : Change} {result : Result ℕ Failure} (fresh : IsFresh limits (shelf_of form) from begun) where
  pub fresh_ends : ListsHonestly x form tries most begun now c result
      → EndsFor tries (IsTrue c.seen.plain) c.seen c.seen' (cause_of (ending_of result))
  fresh_ends lists = record { stays = lists.ends.stays; grows = lists.ends.grows; counts = lists.ends.counts; plain = λ p. lists.ends.plain (p, holds_none fresh c.seen) }

  pub fresh_along : ListsHonestly x form tries most begun now c result
      → c.seen'.stores_added ≡ c.seen.stores_added
      → OnWalk (shelf_of form) (start_of from) c.seen.store (λ walk end.
      ListsAlong x form tries most begun now c result (start_of from) walk end 0
      × (c.seen'.calls ≤ c.seen.calls
      + walk_call_bound form c.seen.store tries (first_rows form most walk)))
  fresh_along lists same walk end w ends =
      let along = lists.along same (start_of from) walk end 0 (record { walks = w; ends = ends; stands = fresh.stands _ walk }) in
      (along, omega (arith, along.calls fresh.some, fresh.falls))
