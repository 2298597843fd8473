-- The steps of a cursor that reads a shelf while the store changes, and the rows that they returned.
use Rattle.std.proofs.Common.{◌≡◌, ℕ, ◌==◌, Bool, true, false, Option, None, Some, Result, Ok, Err, List, [], ◌∷◌, ◌++◌, length, take, refl, sym, ap, subst, ◌∙◌, arith, append-nil}
use Rattle.std.proofs.lemmas.Bool.Decides.{nat_tests}
use Rattle.std.proofs.lemmas.List.Elements.{All-append, All-cons, All-nil, All-weaker}
use Rattle.ipmi_bus.proofs.GrowthLaws.{growth, Moment, moment}
use Rattle.ipmi_bus.proofs.HeldLemmas.{held_at_last, keeps_second}
use Rattle.ipmi_commands.specs.Traced.{IsTraced}
use Rattle.ipmi_capture.specs.Below.{AllFollowOrStop, AreSteps, asked_at, Cycle, cursor_after, CursorState, End, Ended, First, FollowsOrStops, GaveUp, handed_out, IsHonest, IsLog, IsStep, look, Malformed, Missing, OnGrowing, OnlyGrew, Refused, Row, row_with_id, rows_of, Seen, seen_after, Shelf, Stalled, StandsAt, Stepped, stays_refl, stays_trans, StaysHonest, StepAnswers, with_handed}
use Rattle.ipmi_capture.specs.Left.{LacksRecords}
use Rattle.ipmi_capture.specs.Meanwhile.{OfHeld, OwnRows}
use Rattle.ipmi_capture.specs.Phases.{CameKept, CameOfLog, WalksWhile}
use Rattle.ipmi_capture.specs.declared.left.Left.{Left}
use Rattle.ipmi_capture.proofs.MeanwhileLemmas.{growing_second, kept_value, of_held_first, of_held_second}

its_id : (n : ℕ) (rows : List Row) (row : Row) → row_with_id n rows ≡ Some row → row.id ≡ n
its_id n [] row found = grind (arith, found)
its_id n (x ∷ rows) row found = grind (arith, nat_tests, found, its_id n rows row)

-- a row that an id requests is the row with its own id
found_itself : (rows : List Row) (n : ℕ) (row : Row) → look rows n ≡ Some row → row_with_id row.id rows ≡ Some row
found_itself [] n row found = grind (arith, nat_tests, found)
found_itself (x ∷ rows) n row found = by (n == 0) refl
  where
    by : (b : Bool) → (n == 0) ≡ b → row_with_id row.id (x ∷ rows) ≡ Some row
    by true is = grind (arith, nat_tests, is, found)
    by false is =
        let at : row_with_id n (x ∷ rows) ≡ Some row = grind (arith, is, found) in
        subst (λ (k : ℕ). row_with_id k (x ∷ rows) ≡ Some row) (sym (its_id n (x ∷ rows) row at)) at

-- ---- steps, and one more

steps_more : (c : CursorState) (s : Seen) (steps : List Stepped) (step : Stepped) → AreSteps c s steps
    → StaysHonest (seen_after s steps) step.before
    → IsStep (cursor_after c steps) step.cursor step.before step.seen step.result → AreSteps c s (steps ++ step ∷ [])
steps_more c s [] step are stays made = (stays, made, tt)
steps_more c s (one ∷ steps) step are stays made = (are.0, are.1, steps_more one.cursor one.seen steps step are.2 stays made)

cursor_more : (c : CursorState) (steps : List Stepped) (step : Stepped) → cursor_after c (steps ++ step ∷ []) ≡ step.cursor
cursor_more c [] step = refl
cursor_more c (one ∷ steps) step = cursor_more one.cursor steps step

seen_more : (s : Seen) (steps : List Stepped) (step : Stepped) → seen_after s (steps ++ step ∷ []) ≡ step.seen
seen_more s [] step = refl
seen_more s (one ∷ steps) step = seen_more one.seen steps step

handed_more : (steps : List Stepped) (step : Stepped)
    → handed_out (steps ++ step ∷ []) ≡ handed_out steps ++ with_handed step.result []
handed_more [] step = refl
handed_more (one ∷ steps) step = rw (handed_more steps step) (with_more one.result (handed_out steps) (with_handed step.result []))
  where
    with_more : (result : Result (Option Row) Ended) (rows more : List Row)
        → with_handed result (rows ++ more) ≡ with_handed result rows ++ more
    with_more (Ok (Some row)) rows more = refl
    with_more (Ok None) rows more = refl
    with_more (Err ended) rows more = refl

last_follows : (steps : List Stepped) (step : Stepped) → AllFollowOrStop (steps ++ step ∷ []) → FollowsOrStops step.result
last_follows [] step all = all.0
last_follows (one ∷ steps) step all = last_follows steps step all.1

-- ---- the rows so far

-- the steps since a cursor began, and what they returned
pub record WalkedWhile (shelf : Shelf) (s s' : Seen) (now : CursorState) (rows : List Row) : Type 0 where
  pub begun : CursorState
  pub of_shelf : begun.shelf ≡ shelf
  pub stands : (all walk : List Row) → StandsAt all First walk 0 begun
  pub steps : List Stepped
  pub traced : IsTraced begun now s s' steps
  pub handed : rows ≡ handed_out steps
  pub own : OwnRows shelf rows s s'

-- no step was made
pub while_none : (shelf : Shelf) (s : Seen) (cursor : CursorState) → IsHonest s → cursor.shelf ≡ shelf
    → ((all walk : List Row) → StandsAt all First walk 0 cursor) → WalkedWhile shelf s s cursor []
while_none shelf s cursor h of_shelf stands = record {
  begun = cursor;
  of_shelf = of_shelf;
  stands = stands;
  steps = [];
  traced = record { are = tt; cursor = refl; stays = stays_refl s h };
  handed = refl;
  own = All-nil (λ row. OfHeld s s (λ store. row_with_id row.id (rows_of shelf store) ≡ Some row));
}

pub own_first : (shelf : Shelf) (a b c : Seen) → StaysHonest a b → StaysHonest b c → (rows : List Row) → OwnRows shelf rows a b
    → OwnRows shelf rows a c
own_first shelf a b c first then_ rows own =
    All-weaker (λ row. OfHeld a b (λ store. row_with_id row.id (rows_of shelf store) ≡ Some row))
    (λ row. OfHeld a c (λ store. row_with_id row.id (rows_of shelf store) ≡ Some row))
    (λ row held. of_held_first a b c first then_ (λ store is. is) held) rows own

pub own_second : (shelf : Shelf) (a b c : Seen) → StaysHonest a b → StaysHonest b c → (rows : List Row) → OwnRows shelf rows b c
    → OwnRows shelf rows a c
own_second shelf a b c first then_ rows own =
    All-weaker (λ row. OfHeld b c (λ store. row_with_id row.id (rows_of shelf store) ≡ Some row))
    (λ row. OfHeld a c (λ store. row_with_id row.id (rows_of shelf store) ≡ Some row))
    (λ row held. of_held_second a b c first then_ (λ store is. is) held) rows own

-- one more step
module _ {shelf : Shelf} {s s' s'' : Seen} {now next : CursorState} {rows : List Row} {result : Result (Option Row) Ended}
    (h : IsHonest s) (before : StaysHonest s s') (w : WalkedWhile shelf s s' now rows) (step : IsStep now next s' s'' result) where
  later : StaysHonest s' s''
  later = (step.honest before.honest).stays

  abbrev last : Stepped
  last = record { before = s'; result = result; cursor = next; seen = s'' }

  abbrev all : List Stepped
  all = w.steps ++ last ∷ []

  traced_all : IsTraced w.begun next s s'' all
  traced_all = record {
    are = steps_more w.begun s w.steps last w.traced.are w.traced.stays (subst (λ (c : CursorState). IsStep c next s' s'' result) (sym w.traced.cursor) step);
    cursor = cursor_more w.begun w.steps last;
    stays = rw (seen_more s w.steps last) (stays_refl s'' later.honest);
  }

  handed_all : handed_out all ≡ rows ++ with_handed result []
  handed_all = handed_more w.steps last ∙ ap (λ (l : List Row). l ++ with_handed result []) (sym w.handed)

  own_on : OwnRows shelf rows s s''
  own_on = own_first shelf s s' s'' before later rows w.own

  -- the walk only grew
  module _ (first : List Row) (log : IsLog w.begun.shelf First s.store first) (grew : OnlyGrew w.begun.shelf First s s'') where
    with_last : Moment w.begun.shelf First first s s'' (cursor_after w.begun all) (handed_out all)
    with_last = moment w.begun s s'' First first h log (w.stands (rows_of w.begun.shelf s.store) first) all traced_all.are traced_all.stays grew

    follows : FollowsOrStops result
    follows = last_follows w.steps last (growth w.begun s s'' First first h log (w.stands (rows_of w.begun.shelf s.store) first) all traced_all.are traced_all.stays grew).1

    without_last : Moment w.begun.shelf First first s s'' (cursor_after w.begun w.steps) (handed_out w.steps)
    without_last = moment w.begun s s'' First first h log (w.stands (rows_of w.begun.shelf s.store) first) w.steps w.traced.are
        (stays_trans (seen_after s w.steps) s' s'' w.traced.stays later) grew

  of_begun : (ended : Option Ended) → CameKept shelf s s'' rows ended
      → OnGrowing w.begun.shelf First s s'' (λ log. CameOfLog w.begun.shelf log rows ended) → WalksWhile shelf s s'' rows ended
  of_begun ended kept along = record {
    kept = kept;
    along = subst (λ (x : Shelf). OnGrowing x First s s'' (λ log. CameOfLog x log rows ended)) w.of_shelf along;
    own = own_on;
  }

  -- there are no more records: the rows are the whole walk
  pub while_done : result ≡ Ok None → CameKept shelf s s'' rows None → WalksWhile shelf s s'' rows None
  while_done is kept = of_begun None kept (λ first log grew.
      let m = with_last first log grew in
      let at_end : (cursor_after w.begun all).place ≡ End = ap (λ (c : CursorState). c.place) traced_all.cursor ∙ (rw is at step.leaves).1.place in
      (m.rows, m.was, sym (handed_all ∙ rw is (append-nil rows)) ∙ m.whole at_end))

  first_ones : (ended : Ended) → CameKept shelf s s'' rows (Some ended) → ((first : List Row) → IsLog w.begun.shelf First s.store first → OnlyGrew w.begun.shelf First s s''
      → LacksRecords w.begun.shelf (Left.Records w.begun.shelf ended)) → WalksWhile shelf s s'' rows (Some ended)
  first_ones ended kept lacks = of_begun (Some ended) kept (λ first log grew.
      let m = without_last first log grew in
      (m.rows, m.was, (subst (λ (l : List Row). l ≡ take (length l) m.rows) (sym w.handed) m.begins, lacks first log grew)))

  -- the step failed: along a walk that only grew, it gave up or was refused
  pub while_ended : (ended : Ended) → result ≡ Err ended → CameKept shelf s s'' rows (Some ended)
      → WalksWhile shelf s s'' rows (Some ended)
  while_ended ended is kept = first_ones ended kept (λ first log grew. lacks ended (subst FollowsOrStops is (follows first log grew)))
    where
      lacks : (e : Ended) → FollowsOrStops (Err e) → LacksRecords w.begun.shelf (Left.Records w.begun.shelf e)
      lacks (GaveUp n) none = refl
      lacks (Refused n code) none = refl
      lacks (Cycle n) none = absurd none
      lacks (Missing n) none = absurd none
      lacks (Stalled n) none = absurd none
      lacks (Malformed n) none = absurd none

  -- the record is put after the others
  pub while_more : {row : Row} → now.shelf ≡ shelf → result ≡ Ok (Some row) → WalkedWhile shelf s s'' next (rows ++ row ∷ [])
  while_more {row} same is = record {
    begun = w.begun;
    of_shelf = w.of_shelf;
    stands = w.stands;
    steps = all;
    traced = traced_all;
    handed = sym (handed_all ∙ rw is refl);
    own = All-append IsOwn rows (row ∷ []) own_on (All-cons IsOwn row [] (s''.store, held_at_last s s'', found (rw is at (step.honest before.honest).answers)) (All-nil IsOwn));
  }
    where
      IsOwn : Row → Type 0
      IsOwn row = OfHeld s s'' (λ store. row_with_id row.id (rows_of shelf store) ≡ Some row)

      found : StepAnswers now s' s'' (Ok (Some row)) → row_with_id row.id (rows_of shelf s''.store) ≡ Some row
      found answers = found_itself (rows_of shelf s''.store) (asked_at now.place) row (rw same at answers.1)

-- ---- a shelf that is read again

pub while_again : {shelf : Shelf} (s s' s'' : Seen) {rows : List Row} {ended : Option Ended} → StaysHonest s s' → StaysHonest s' s''
    → WalksWhile shelf s' s'' rows ended → WalksWhile shelf s s'' rows ended
while_again {shelf} s s' s'' {rows} {ended} before later walks = record {
  kept = λ keeps walk end is ends.
      let same = kept_value s s' s'' before later (rows_of shelf) keeps in
      walks.kept (keeps_second (rows_of shelf) s s' s'' before.store later.store keeps) walk end (rw same is) (rw same ends);
  along = growing_second s s' s'' before later shelf First (λ log came. came) walks.along;
  own = own_second shelf s s' s'' before later rows walks.own;
}
