-- A search for sensors, step by step of its cursor.
use Rattle.std.proofs.Common.{◌≡◌, inl, inr, ℕ, ◌+◌, ◌≤◌, IsTrue, Option, None, Some, Result, Ok, Err, List, [], ◌∷◌, ◌++◌, length, take, refl, sym, ap, subst, ◌∙◌, arith, append-nil, append_assoc, take_all, length-append, Bool, true, false, cond}
use Rattle.std.specs.FinSet as set
use Rattle.std.proofs.lemmas.Bool.Decides.{nat_tests}
use Rattle.std.proofs.lemmas.List.{take-take}
use Rattle.std.proofs.Math.Seq.{take-append_seam}
use Rattle.ipmi_bus.proofs.GrowthLaws.{moment, steps_stay}
use Rattle.ipmi_bus.proofs.HeldLemmas.{held_at_last, held_in_first}
use Rattle.ipmi_bus.proofs.StepsLaws.{steps_follow}
use Rattle.ipmi_bus.proofs.WalkLemmas.{all_at_end}
use Rattle.ipmi_records.specs.Sdr.{sdr_view_of}
use Rattle.ipmi_records.specs.declared.sdr.SdrFault.{SdrFault}
use Rattle.ipmi_records.specs.declared.sdr.SdrView.{SdrView}
use Rattle.ipmi_bus.specs.CursorState.{CursorState, start_of}
use Rattle.ipmi_bus.specs.Grown.{OnlyGrew}
use Rattle.ipmi_bus.specs.Growth.{IsLog, OnGrowing, WasLog}
use Rattle.ipmi_bus.specs.Held.{WasHeld}
use Rattle.ipmi_bus.specs.Seen.{IsHonest, Seen, stays_refl, stays_trans, StaysHonest}
use Rattle.ipmi_bus.specs.Shelf.{first_row, Row}
use Rattle.ipmi_bus.specs.Standing.{StandsAt, WalkStep}
use Rattle.ipmi_bus.specs.Step.{CursorHoldsCurrent, IsStep, StepIsHonest}
use Rattle.ipmi_bus.specs.Steps.{AreSteps, cursor_after, handed_out, seen_after, Stepped, with_handed}
use Rattle.ipmi_bus.specs.Store.{rows_of, Store, store_shelf}
use Rattle.ipmi_bus.specs.Walk.{CycleAt, Done, EndsBy, IsWalk, last_next, MissingAt, place_after, place_after_rows, WalkEnd}
use Rattle.ipmi_bus.specs.declared.controller.Shelf.{Shelf}
use Rattle.ipmi_bus.specs.declared.controller.Shelf.TheVariants.{Sdr}
use Rattle.ipmi_bus.specs.declared.step.Ended.{Ended}
use Rattle.ipmi_bus.specs.declared.step.Place.{Place}
use Rattle.ipmi_bus.specs.declared.step.Place.TheVariants.{End, First, Id}
use Rattle.ipmi_output.specs.Failure.{Ending}
use Rattle.ipmi_output.specs.declared.failure.Failure.{Failure}
use Rattle.ipmi_commands.specs.Prelude.{AsksAt, AtEnd, calls_for_points, Cause, cause_of, cause_of_unread, EndsFor, failure_of, FindsIt, FindsNone, IsFresh, IsOnWalk, KeepsAt, most_after, most_for_one, OnEachWalk, OnWalk, points_because_of, walk_call_bound, reading_points, ReadPoint}
use Rattle.ipmi_commands.specs.declared.read_error.ReadError.{ReadError}
use Rattle.ipmi_sensors.specs.Sensors.{AddsSought, AreFoundWhile, AreSought, FindsAlong, FindsBy, FindsWhile, Found, found_among, found_by, found_of, found_of_result, found_points, SearchCalls, Searches, SearchesBy, seeks, StopsAtResult, with_readings}
use Rattle.ipmi_sensors.specs.declared.sensors.Sought.{Sought}
use Rattle.ipmi_commands.specs.Traced.{IsStopAmong, IsTraced, seen_next}
use Rattle.ipmi_commands.specs.declared.limits.RequestLimits.{RequestLimits}
use Rattle.ipmi_commands.specs.declared.limits.Tries.{Tries}
use Rattle.ipmi_commands.proofs.AlongLemmas.{in_all, IsAlong, one_more, StepsAlong, stopped_along}
use Rattle.ipmi_commands.proofs.CallLemmas.{called_more, called_stopped, calls_ended, HandsNothing, HasCalled}
use Rattle.ipmi_commands.proofs.CountLemmas.{between, ends_here, ends_since}
use Rattle.ipmi_commands.proofs.GrownListing.{split_last}
use Rattle.ipmi_commands.proofs.ListingLemmas.{current-kept, holds_none, step_cause, step_ends}
use Rattle.ipmi_commands.proofs.MeanwhileLemmas.{if_keeps, log_now, next_stays, reading_keeps}
use Rattle.ipmi_commands.proofs.TraceLemmas.{cursor_more, handed_joined, next_more, seen_more, steps_more}

-- ---- what is found of a row

-- a reading has no inventory that may change
reading_kept : (sought : Sought) (row : Row) (s s' : Seen) → KeepsAt (found_points sought row) s s'
reading_kept sought row s s' =
    if_keeps (seeks sought row) (reading_points row.id (sdr_view_of row.bytes)) s s' (reading_keeps row.id (sdr_view_of row.bytes) s s')

-- its calls are among those of a listing with readings
found_calls : (sought : Sought) (row : Row) (tries : Tries) (a b : Store)
    → calls_for_points tries a (found_points sought row) ≤ calls_for_points tries b (points_because_of with_readings row)
found_calls sought row tries a b = if_found (seeks sought row)
  where
    of_reading : (id : ℕ) (view : Result SdrView SdrFault)
        → calls_for_points tries a (reading_points id view) ≡ calls_for_points tries b (reading_points id view)
    of_reading id view = grind arith

    if_found : (one : Bool) → calls_for_points tries a (cond one (reading_points row.id (sdr_view_of row.bytes)) [])
        ≤ calls_for_points tries b (reading_points row.id (sdr_view_of row.bytes))
    if_found true = omega (arith, of_reading row.id (sdr_view_of row.bytes))
    if_found false = omega arith

-- ---- over any controller

pub adds_none : (sought : Sought) (old : List Found) → AddsSought sought old old
adds_none sought old = record { more = []; are_sought = tt; new_is = sym (append-nil old) }

sought_joined : (sought : Sought) (a b : List Found) → AreSought sought a → AreSought sought b → AreSought sought (a ++ b)
sought_joined sought [] b first rest = rest
sought_joined sought (x ∷ a) b first rest = (first.0, sought_joined sought a b first.1 rest)

pub adds_more : (sought : Sought) (a b c : List Found) → AddsSought sought a b → AddsSought sought b c → AddsSought sought a c
adds_more sought a b c first then_ = record {
  more = first.more ++ then_.more;
  are_sought = sought_joined sought first.more then_.more first.are_sought then_.are_sought;
  new_is = then_.new_is ∙ ap (λ (l : List Found). l ++ then_.more) first.new_is ∙ append_assoc a first.more then_.more;
}

-- ---- what is found by one more step

found_more : (sought : Sought) (steps : List Stepped) (step : Stepped) (last : Seen)
    → found_by sought (steps ++ step ∷ []) last
    ≡ found_by sought steps step.before ++ found_of_result sought last.store step.result
found_more sought [] step last = append-nil (found_of_result sought last.store step.result)
found_more sought (one ∷ steps) step last =
    rw (next_more steps step last, found_more sought steps step last)
    (sym (append_assoc (found_of_result sought (seen_next steps step.before).store one.result) (found_by sought steps step.before) (found_of_result sought last.store step.result)))

-- ---- a search that goes on

-- over an honest controller
pub record Searched (sought : Sought) (tries : Tries) (count : ℕ) (begun now : CursorState) (s s' : Seen)
    (old new : List Found) : Type 0 where
  pub ends : EndsFor tries (IsTrue s.plain × CursorHoldsCurrent begun s) s s' AtEnd
  pub holds : IsTrue s.plain → CursorHoldsCurrent begun s → CursorHoldsCurrent now s'
  pub steps : List Stepped
  pub traced : IsTraced begun now s s' steps
  pub found : new ≡ old ++ found_by sought steps s'
  pub along : s'.stores_added ≡ s.stores_added → OnEachWalk Sdr begun s.store
      (λ start walk end k. IsAlong with_readings tries None count count begun now s s' start walk k)

pub record Searching (sought : Sought) (tries : Tries) (begun now : CursorState) (s s' : Seen)
    (old new : List Found) : Type 0 where
  pub shelf : now.shelf ≡ Sdr
  pub tries_are : now.tries ≡ tries.count
  pub count : ℕ
  pub called : HasCalled (most_for_one with_readings tries) count begun now s s'
  pub went : IsHonest s → Searched sought tries count begun now s s' old new

pub search_begun : (sought : Sought) (tries : Tries) (begun : CursorState) (s : Seen) (old : List Found)
    → begun.shelf ≡ Sdr → begun.tries ≡ tries.count → set.len begun.ids ≤ 65536
    → Searching sought tries begun begun s s old old
search_begun sought tries begun s old shelf tries_are room = record {
  shelf = shelf;
  tries_are = tries_are;
  count = 0;
  called = record {
    keeps = record { shelf = refl; tries = refl; part = λ some. some; part_falls = omega arith; room = room; place = λ at. at };
    calls = omega arith;
    ids = omega arith;
  };
  went = λ h. record {
    ends = ends_here h refl tt;
    holds = λ plain held. held;
    steps = [];
    traced = record { are = tt; cursor = refl; stays = stays_refl s h };
    found = sym (append-nil old);
    along = λ same start walk end k on. record { stands = let here : k ≡ k + 0 = omega arith in rw here at on.stands; calls = omega arith; within = refl; count_is = refl };
  };
}

module _ {sought : Sought} {tries : Tries} {begun now : CursorState} {s s' : Seen} {old new : List Found}
    (kept : Searching sought tries begun now s s' old new) where
  module _ {next : CursorState} {s'' : Seen} {result : Result (Option Row) Ended}
      (step : IsStep now next s' s'' result) where
    honest_step : IsHonest s → StepIsHonest now next s' s'' result
    honest_step h = step.honest (kept.went h).ends.stays.honest

    all_ends : IsHonest s → EndsFor tries (IsTrue s.plain × CursorHoldsCurrent begun s) s s'' (step_cause result)
    all_ends h =
        let went = kept.went h in
        ends_since went.ends (λ p. (went.ends.stays.plain p.0, went.holds p.0 p.1)) (step_ends tries now next s' s'' result kept.tries_are (honest_step h))

    abbrev last_step : Stepped
    last_step = record { before = s'; result = result; cursor = next; seen = s'' }

    abbrev all_steps : IsHonest s → List Stepped
    all_steps h = (kept.went h).steps ++ last_step ∷ []

    all_traced : (h : IsHonest s) (last : Seen) → StaysHonest s'' last → IsTraced begun next s last (all_steps h)
    all_traced h last stays =
        let went = kept.went h in record {
          are = steps_more begun s went.steps last_step went.traced.are went.traced.stays (subst (λ (c : CursorState). IsStep c next s' s'' result) (sym went.traced.cursor) step);
          cursor = cursor_more begun went.steps last_step;
          stays = rw (seen_more s went.steps last_step) stays;
        }

    -- what was found, and what is found of what the step returned
    all_found : (h : IsHonest s) (last : Seen) (more : List Found)
        → more ≡ new ++ found_of_result sought last.store result
        → more ≡ old ++ found_by sought (all_steps h) last
    all_found h last more is =
        let went = kept.went h in
        let of_step = found_of_result sought last.store result in
        is ∙ ap (λ (l : List Found). l ++ of_step) went.found ∙ append_assoc old (found_by sought went.steps s') of_step
        ∙ ap (λ (l : List Found). old ++ l) (sym (found_more sought went.steps last_step last))

    -- the step along a walk
    from_here : (h : IsHonest s) → s''.stores_added ≡ s.stores_added → {start : Place} {walk : List Row} {end : WalkEnd}
        {k : ℕ} → IsOnWalk (rows_of Sdr s.store) start walk end k begun
        → StepsAlong with_readings tries None kept.count kept.count begun now next s s' s'' result start walk end k
    from_here h same {start} {walk} {end} {k} on =
        let stays = (kept.went h).ends.stays in
        let parts = between s s' s'' stays (honest_step h).stays same in
        record {
          shelf = kept.shelf;
          tries_are = kept.tries_are;
          some = kept.called.keeps.part;
          below = tt;
          stays = stays;
          first = parts.0;
          then_ = parts.1;
          on = on;
          there = (kept.went h).along parts.0 start walk end k on;
          step = step;
        }

    search_calls : HandsNothing result → SearchCalls tries begun s s''
    search_calls none = λ some.
        (calls_ended (most_after with_readings tries) refl kept.shelf kept.tries_are kept.called step None (Err Failure.OutOfMemory) none tt).all some

  -- ---- a search that ends

  -- there are no more records
  module _ {next : CursorState} {s'' : Seen} (step : IsStep now next s' s'' (Ok None)) where
    pub search_done : IsHonest s → SearchesBy sought tries begun next s s'' old new (Ok tt)
    search_done h = record {
      why = all_ends step h;
      finds = record {
        steps = all_steps step h;
        traced = all_traced step h s'' (stays_refl s'' (honest_step step h).stays.honest);
        ends = (step.leaves.1.place, all_found step h s'' new (sym (append-nil new)));
      };
      calls = λ same start walk end k on. in_all (from_here step h same on);
    }

    pub done_calls : SearchCalls tries begun s s''
    done_calls = search_calls step tt

  -- the cursor returned no record, for this reason
  module _ {next : CursorState} {s'' : Seen} (ended : Ended) (step : IsStep now next s' s'' (Err ended)) where
    pub search_ended : IsHonest s → SearchesBy sought tries begun next s s'' old new (Err (Failure.Ended ended))
    search_ended h = record {
      why = all_ends step h;
      finds = record {
        steps = all_steps step h;
        traced = all_traced step h s'' (stays_refl s'' (honest_step step h).stays.honest);
        ends = record { done = (kept.went h).steps; step = last_step step; are = refl; stops = refl; found = (kept.went h).found };
      };
      calls = λ same start walk end k on. in_all (from_here step h same on);
    }

    pub ended_calls : SearchCalls tries begun s s''
    ended_calls = search_calls step tt

  -- a record was returned
  module _ {next : CursorState} {s'' : Seen} {row : Row} (step : IsStep now next s' s'' (Ok (Some row)))
      (last : Seen) (asked : last.calls ≤ s''.calls + (tries.count + 1)) where
    more_called : HasCalled (most_for_one with_readings tries) (kept.count + 1) begun next s last
    more_called = called_more (most_after with_readings tries) refl kept.shelf kept.tries_are kept.called step last refl asked

    pub lost_calls : SearchCalls tries begun s last
    lost_calls = λ some. (called_stopped (most_for_one with_readings tries) (kept.count + 1) None begun next s last (Err Failure.OutOfMemory) more_called).all some

    row_ends : {cause : Cause} → (h : IsHonest s) → AsksAt (found_points sought row) tries s'' last cause
        → EndsFor tries (IsTrue s.plain × CursorHoldsCurrent begun s) s last cause
    row_ends h asks = ends_since (all_ends step h) (λ p. (all_ends step h).stays.plain p.0) asks.ends

    -- the walk after it
    along_more : {cause : Cause} → (h : IsHonest s) → AsksAt (found_points sought row) tries s'' last cause
        → last.stores_added ≡ s.stores_added → (start : Place) (walk : List Row) (end : WalkEnd) (k : ℕ)
        → IsOnWalk (rows_of Sdr s.store) start walk end k begun
        → IsAlong with_readings tries None (kept.count + 1) (kept.count + 1) begun next s last start walk k
    along_more h asks same start walk end k on =
        let apart = between s s'' last (all_ends step h).stays asks.ends.stays same in
        one_more (from_here step h apart.0 on) last
        (omega (arith, asks.calls (reading_kept sought row s'' last), found_calls sought row tries s''.store s.store))

    -- its reading was not found
    pub search_lost : (unread : ReadError)
        → (IsHonest s'' → FindsNone (found_points sought row) tries s'' last (cause_of_unread unread))
        → IsHonest s → SearchesBy sought tries begun next s last old new (Err (failure_of unread))
    search_lost unread none h =
        let lost = none (honest_step step h).stays.honest in record {
          why = row_ends h lost.asks;
          finds = record {
            steps = all_steps step h;
            traced = all_traced step h last lost.asks.ends.stays;
            ends = record { done = (kept.went h).steps; step = last_step step; are = refl; stops = lost.there; found = (kept.went h).found };
          };
          calls = λ same start walk end k on. stopped_along (along_more h lost.asks same start walk end k on) step.same.part_not_zero;
        }

    -- it was searched
    pub search_more : (more : List Found)
        → (IsHonest s'' → FindsIt (λ store. more ≡ new ++ found_of sought store row) (found_points sought row) tries s'' last)
        → Searching sought tries begun next s last old more
    search_more more finds = record {
      shelf = step.same.shelf ∙ kept.shelf;
      tries_are = step.same.tries ∙ kept.tries_are;
      count = kept.count + 1;
      called = more_called;
      went = λ h.
          let found = finds (honest_step step h).stays.honest in
          let ends = all_ends step h in record {
            ends = row_ends h found.asks;
            holds = λ p held.
                let on = ((honest_step step h).plain ((kept.went h).ends.stays.plain p) ((kept.went h).holds p held)).holds in
                record { held = λ n is. current-kept next.shelf s'' last (found.asks.keeps (ends.stays.plain p)) ∙ on.held n is };
            steps = all_steps step h;
            traced = all_traced step h last found.asks.ends.stays;
            found = all_found step h last more (found.is (reading_kept sought row s'' last));
            along = along_more h found.asks;
          };
    }

-- ---- along a walk, if no store was added

same_shelf : (c : CursorState) (s : Seen) (steps : List Stepped) → AreSteps c s steps
    → (cursor_after c steps).shelf ≡ c.shelf
same_shelf c s [] are = refl
same_shelf c s (step ∷ steps) are = same_shelf step.cursor step.seen steps are.2 ∙ are.1.same.shelf

found_result : (sought : Sought) (store : Store) (result : Result (Option Row) Ended) (rows : List Row)
    → found_among sought store (with_handed result rows)
    ≡ found_of_result sought store result ++ found_among sought store rows
found_result sought store (Ok (Some row)) rows = refl
found_result sought store (Ok None) rows = refl
found_result sought store (Err ended) rows = refl

-- each reading is over the same store
found_steps : (sought : Sought) (c : CursorState) (s : Seen) (steps : List Stepped) (last : Seen)
    → IsHonest s → AreSteps c s steps → StaysHonest (seen_after s steps) last → last.stores_added ≡ s.stores_added
    → found_by sought steps last ≡ found_among sought s.store (handed_out steps)
found_steps sought c s [] last honest are stays same = refl
found_steps sought c s (step ∷ steps) last honest are stays same =
    let made = (are.1.honest are.0.honest).stays in
    let to_here = stays_trans s step.before step.seen are.0 made in
    let next = next_stays step.cursor step.seen steps last made.honest are.2 stays in
    let on = stays_trans s step.seen (seen_next steps last) to_here next.0 in
    let here = between s step.seen last to_here (stays_trans step.seen (seen_next steps last) last next.0 next.1) same in
    let there = between s (seen_next steps last) last on next.1 same in
    let rest = found_steps sought step.cursor step.seen steps last made.honest are.2 stays here.1 in
    rw (on.store.stays there.0, rest, to_here.store.stays here.0) (sym (found_result sought s.store step.result (handed_out steps)))

-- the place after a whole walk is the end only if the walk ends with `Done`
last_at_end : (next : ℕ) (walk : List Row) → place_after_rows (place_after next) walk ≡ End → last_next next walk ≡ 0xFFFF
last_at_end next [] at = grind (arith, nat_tests)
last_at_end next (row ∷ walk) at = last_at_end row.next walk at

ends_done : (rows : List Row) (start : Place) (walk : List Row) (end : WalkEnd) → EndsBy rows start walk end
    → place_after_rows start walk ≡ End → end ≡ Done
ends_done rows start walk Done ends at = refl
ends_done rows First [] (CycleAt n) ends at = absurd ends
ends_done rows (Id id) [] (CycleAt n) ends at = cc at
ends_done rows End [] (CycleAt n) ends at = absurd ends
ends_done rows start (row ∷ walk) (CycleAt n) ends at = absurd (ends.1 (last_at_end row.next walk at))
ends_done rows First [] (MissingAt n) ends at = absurd ends
ends_done rows (Id id) [] (MissingAt n) ends at = cc at
ends_done rows End [] (MissingAt n) ends at = absurd ends
ends_done rows start (row ∷ walk) (MissingAt n) ends at = absurd (ends.1 (last_at_end row.next walk at))

-- so does the walk of an empty shelf
empty_done : (rows walk : List Row) (end : WalkEnd) → IsWalk rows First walk → EndsBy rows First walk end
    → first_row rows ≡ None → end ≡ Done
empty_done rows [] Done w ends none = refl
empty_done rows [] (CycleAt n) w ends none = absurd ends
empty_done rows [] (MissingAt n) w ends none = absurd ends
empty_done rows (row ∷ walk) end w ends none = let is = w.first in cc (is, none)

module _ (sought : Sought) (begun now : CursorState) (s s' : Seen) (old new : List Found) (start : Place)
    (honest : IsHonest s) (same : s'.stores_added ≡ s.stores_added) (walk : List Row) (end : WalkEnd)
    (w : IsWalk (rows_of begun.shelf s.store) start walk) (ends : EndsBy (rows_of begun.shelf s.store) start walk end)
    (stands : StandsAt (rows_of begun.shelf s.store) start walk 0 begun) where
  -- what was found by some steps is what is found of the first rows
  first_found : (steps : List Stepped) (last : Seen) → AreSteps begun s steps → StaysHonest (seen_after s steps) last
      → last.stores_added ≡ s.stores_added → new ≡ old ++ found_by sought steps last
      → (count : ℕ) × (new ≡ old ++ found_among sought s.store (take count walk))
      × StandsAt (rows_of begun.shelf s.store) start walk count (cursor_after begun steps)
  first_found steps last are stays unchanged found =
      let parts = between s (seen_after s steps) last (steps_stay begun s steps honest are) stays unchanged in
      let at = steps_follow begun s steps start walk end honest w ends stands are parts.0 in
      let those = found_steps sought begun s steps last honest are stays unchanged in
      (at.0, found ∙ ap (λ (l : List Found). old ++ l) (those ∙ ap (found_among sought s.store) at.1), at.2)

  -- a cursor at the end is after the whole walk
  whole_walk : (k : ℕ) (c : CursorState) → c.shelf ≡ begun.shelf → StandsAt (rows_of begun.shelf s.store) start walk k c
      → c.place ≡ End → (end ≡ Done) × (take k walk ≡ walk)
  whole_walk k c shelf at place =
      let all : k ≡ length walk = all_at_end c c s start walk k (store_shelf c.shelf s.store honest.store)
      (subst (λ (x : Shelf). IsWalk (rows_of x s.store) start walk) (sym shelf) w)
      (subst (λ (x : Shelf). StandsAt (rows_of x s.store) start walk k c) (sym shelf) at) place in
      let rows : take k walk ≡ walk = take_all k walk (omega (arith, all)) in (
        elim at.place [
          | inl here ↦ ends_done (rows_of begun.shelf s.store) start walk end ends (ap (place_after_rows start) (sym rows) ∙ sym here ∙ place)
          | inr none ↦ empty_done (rows_of begun.shelf s.store) walk end (rw none.1 at w) (rw none.1 at ends) none.2
        ],
        rows,
      )

  abbrev Along : Ending → Type 0
  Along = FindsAlong sought s.store walk end old new

  -- a step that failed after the first k rows
  along_ended : (k : ℕ) (c next : CursorState) (ended : Ended) → WalkStep (rows_of begun.shelf s.store) start walk end k c next (Err ended)
      → new ≡ old ++ found_among sought s.store (take k walk) → Along (Err (Failure.Ended ended))
  along_ended k c next (Ended.Cycle n) at found = (at.1, rw (take_all k walk (omega (arith, at.0))) at found)
  along_ended k c next (Ended.Missing n) at found = (at.1, rw (take_all k walk (omega (arith, at.0))) at found)
  along_ended k c next (Ended.GaveUp n) at found = (k, found)
  along_ended k c next (Ended.Refused n code) at found = (k, found)
  along_ended k c next (Ended.Stalled n) at found = (k, found)
  along_ended k c next (Ended.Malformed n) at found = (k, found)

  -- a reading that was not found
  along_lost : (k : ℕ) (points : List ReadPoint) (failure : Failure) → IsStopAmong points (cause_of (Err failure))
      → new ≡ old ++ found_among sought s.store (take k walk) → Along (Err failure)
  along_lost k points (Failure.Ended (Ended.Cycle n)) there found = absurd there
  along_lost k points (Failure.Ended (Ended.Missing n)) there found = absurd there
  along_lost k points _ there found = (k, found)

  along_stopped : (k : ℕ) (c next : CursorState) (result : Result (Option Row) Ended) (failure : Failure)
      → WalkStep (rows_of begun.shelf s.store) start walk end k c next result → StopsAtResult sought result failure
      → new ≡ old ++ found_among sought s.store (take k walk) → Along (Err failure)
  along_stopped k c next (Ok (Some row)) failure at stops found = along_lost k (found_points sought row) failure stops found
  along_stopped k c next (Ok None) failure at stops found = absurd stops
  along_stopped k c next (Err ended) failure at stops found =
      subst (λ (f : Failure). Along (Err f)) (sym stops) (along_ended k c next ended at found)

  along : (ending : Ending) → FindsBy sought begun now s s' old new ending → Along ending
  along (Ok done) f =
      let at = first_found f.steps s' f.traced.are f.traced.stays same f.ends.1 in
      let all = whole_walk at.0 (cursor_after begun f.steps) (same_shelf begun s f.steps f.traced.are) at.2 (ap (λ (c : CursorState). c.place) f.traced.cursor ∙ f.ends.0) in
      (all.0, at.1 ∙ ap (λ (l : List Row). old ++ found_among sought s.store l) all.1)
  along (Err failure) f =
      let done = f.ends.done in
      let step = f.ends.step in
      let parts = split_last begun s done step (subst (AreSteps begun s) f.ends.are f.traced.are) in
      let before = stays_trans s (seen_after s done) step.before (steps_stay begun s done honest parts.0) parts.1 in
      let made = (parts.2.honest parts.1.honest).stays in
      let after = subst (λ (x : Seen). StaysHonest x s') (ap (seen_after s) f.ends.are ∙ seen_more s done step) f.traced.stays in
      let first = (between s step.before s' before (stays_trans step.before step.seen s' made after) same).0 in
      let quiet = (between step.before step.seen s' made after (same ∙ sym first)).0 in
      let at = first_found done step.before parts.0 parts.1 first f.ends.found in
      let rows : rows_of (cursor_after begun done).shelf step.before.store ≡ rows_of begun.shelf s.store =
      ap (λ (x : Shelf). rows_of x step.before.store) (same_shelf begun s done parts.0) ∙ ap (rows_of begun.shelf) (before.store.stays first) in
      let stepped = (rw rows at ((parts.2.walks parts.1.honest).follows quiet start walk end at.0)) w ends at.2 in
      along_stopped at.0 (cursor_after begun done) step.cursor step.result failure stepped f.ends.stops at.1

-- ---- along a log that grew

module _ (sought : Sought) (first last : Seen) where
  found_then : (result : Result (Option Row) Ended) (store : Store) (rows : List Row) (rest : List Found)
      → WasHeld first last store → AreFoundWhile sought first last rows rest
      → AreFoundWhile sought first last (with_handed result rows) (found_of_result sought store result ++ rest)
  found_then (Ok (Some row)) store rows rest held are = record { store = store; held = held; rest = rest; is_rest = are; joined = refl }
  found_then (Ok None) store rows rest held are = are
  found_then (Err ended) store rows rest held are = are

  found_while : (c : CursorState) (s : Seen) (steps : List Stepped) (now : Seen) → StaysHonest first s → AreSteps c s steps
      → StaysHonest (seen_after s steps) now → StaysHonest now last → AreFoundWhile sought first last (handed_out steps) (found_by sought steps now)
  found_while c s [] now before are stays after = refl
  found_while c s (step ∷ steps) now before are stays after =
      let made = (are.1.honest are.0.honest).stays in
      let to_here = stays_trans first s step.seen before (stays_trans s step.before step.seen are.0 made) in
      let next = next_stays step.cursor step.seen steps now made.honest are.2 stays in
      let there = seen_next steps now in
      let to_there = stays_trans first step.seen there to_here next.0 in
      let on = stays_trans there now last next.1 after in
      found_then step.result there.store (handed_out steps) (found_by sought steps now)
      (held_in_first first there last to_there.store on.store there.store (held_at_last first there))
      (found_while step.cursor step.seen steps now to_here are.2 stays after)

module _ (sought : Sought) (begun now : CursorState) (s s' : Seen) (old new : List Found) (start : Place)
    (honest : IsHonest s) (first : List Row) (log : IsLog begun.shelf start s.store first)
    (stands : StandsAt (rows_of begun.shelf s.store) start first 0 begun) (grew : OnlyGrew begun.shelf start s s') where
  grown : (ending : Ending) → FindsBy sought begun now s s' old new ending
      → (rows : List Row) × WasLog begun.shelf start s s' first rows × FindsWhile sought rows s s' old new ending
  grown (Ok done) f =
      let m = moment begun s s' start first honest log stands f.steps f.traced.are f.traced.stays grew in
      let whole = m.whole (ap (λ (c : CursorState). c.place) f.traced.cursor ∙ f.ends.0) in
      let last = stays_refl s' f.traced.stays.honest in
      let those = found_while sought s s' begun s f.steps s' (stays_refl s honest) f.traced.are f.traced.stays last in
      (m.rows, m.was, (found_by sought f.steps s', f.ends.1, subst (λ (l : List Row). AreFoundWhile sought s s' l (found_by sought f.steps s')) whole those))
  grown (Err failure) f =
      let m = moment begun s s' start first honest log stands f.steps f.traced.are f.traced.stays grew in
      let done = f.ends.done in
      let step = f.ends.step in
      let parts = split_last begun s done step (subst (AreSteps begun s) f.ends.are f.traced.are) in
      let made = (parts.2.honest parts.1.honest).stays in
      let after = stays_trans step.before step.seen s' made (subst (λ (x : Seen). StaysHonest x s') (ap (seen_after s) f.ends.are ∙ seen_more s done step) f.traced.stays) in
      let those = found_while sought s s' begun s done step.before (stays_refl s honest) parts.0 parts.1 after in
      let hd = handed_out done in
      let all : handed_out f.steps ≡ hd ++ handed_out (step ∷ []) = ap handed_out f.ends.are ∙ handed_joined done (step ∷ []) in
      let few : length hd ≤ length (handed_out f.steps) = omega (arith, ap (length {A = Row}) all, length-append hd (handed_out (step ∷ []))) in
      let rows : hd ≡ take (length hd) m.rows = sym (take-append_seam hd (handed_out (step ∷ []))) ∙ ap (take (length hd)) (sym all ∙ m.begins) ∙ take-take (length hd) (length (handed_out f.steps)) m.rows few in
      (m.rows, m.was, (length hd, found_by sought done step.before, f.ends.found, subst (λ (l : List Row). AreFoundWhile sought s s' l (found_by sought done step.before)) rows those))

-- ---- a new cursor

pub search_by_cursor : {limits : RequestLimits} {from : Option ℕ} {sought : Sought} {tries : Tries}
    {begun now : CursorState} {s s' : Seen} {old new : List Found} {ending : Ending}
    → IsFresh limits Sdr from begun → IsHonest s
    → SearchesBy sought tries begun now s s' old new ending
    → Searches sought (start_of from) tries s s' old new ending
search_by_cursor {from = from} {sought} {tries} {begun = begun} {now = now} {s = s} {s' = s'} {old = old} {new = new} {ending = ending} fresh honest by_cursor =
    let shelf : begun.shelf ≡ Sdr = ap (λ (c : CursorState). c.shelf) fresh.is in
    record {
      why = record { stays = by_cursor.why.stays; grows = by_cursor.why.grows; counts = by_cursor.why.counts; plain = λ p. by_cursor.why.plain (p, holds_none fresh s) };
      traces = inr (record {
        begun = begun;
        now = now;
        shelf = shelf;
        place = ap (λ (c : CursorState). c.place) fresh.is;
        ids = ap (λ (c : CursorState). c.ids) fresh.is;
        finds = by_cursor.finds;
      });
      along = λ same. subst (λ (x : Shelf). OnWalk x (start_of from) s.store (λ walk end. FindsAlong sought s.store walk end old new ending
          × (s'.calls ≤ s.calls + walk_call_bound with_readings s.store tries walk))) shelf
          (λ walk end w ends. (
            along sought begun now s s' old new (start_of from) honest same walk end w ends (fresh.stands (rows_of begun.shelf s.store) walk) ending by_cursor.finds,
            calls_on same walk end (subst (λ (x : Shelf). IsOnWalk (rows_of x s.store) (start_of from) walk end 0 begun) shelf (record { walks = w; ends = ends; stands = fresh.stands (rows_of begun.shelf s.store) walk })),
          ));
      grows = subst (λ (x : Shelf). OnGrowing x (start_of from) s s' (λ log. FindsWhile sought log s s' old new ending)) shelf
          (λ first log grew. grown sought begun now s s' old new (start_of from) honest first log (fresh.stands (rows_of begun.shelf s.store) first) grew ending by_cursor.finds);
    }
  where
    calls_on : s'.stores_added ≡ s.stores_added → (walk : List Row) (end : WalkEnd)
        → IsOnWalk (rows_of Sdr s.store) (start_of from) walk end 0 begun
        → s'.calls ≤ s.calls + walk_call_bound with_readings s.store tries walk
    calls_on same walk end on = omega (arith, by_cursor.calls same (start_of from) walk end 0 on fresh.some, fresh.falls)

-- without memory for one
pub search_without_memory : {sought : Sought} {start : Place} {tries : Tries} {s : Seen} {old : List Found} → IsHonest s
    → Searches sought start tries s s old old (Err Failure.OutOfMemory)
search_without_memory {s = s} {old = old} honest = record {
  why = ends_here honest refl tt;
  traces = inl (refl, refl, refl);
  along = λ same walk end w ends. ((0, sym (append-nil old)), omega arith);
  grows = λ first log grew. (first, log_now s s (stays_refl s honest).store honest first log, (0, [], sym (append-nil old), refl));
}
