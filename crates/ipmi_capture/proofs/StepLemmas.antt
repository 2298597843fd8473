-- Putting the records of a shelf into an image, step by step of a cursor.
use Rattle.std.proofs.Common.{◌≡◌, ◌≢◌, ◌==◌, Bool, subst, nat_eq, nat_lt, true≢false, ℕ, ◌+◌, ◌*◌, ◌<◌, ◌≤◌, true, false, IsTrue, Option, None, Some, Result, Ok, Err, IfOk, List, [], ◌∷◌, ◌++◌, length, map, take, drop, inl, inr, refl, sym, ap, ◌∙◌, arith, take_all, length-append, take-add}
use Rattle.std.specs.declared.alloc.AllocError.{AllocError}
use Rattle.std.specs.FinSet as set
use Rattle.std.specs.Ordering.{nat_cmp}
use Rattle.std.specs.FinSet.{len-empty, len-insert}
use Rattle.std.specs.Cmp.{nat_cmp_total}
use Rattle.std.proofs.lemmas.Bool.Decides.{nat_tests}
use Rattle.std.proofs.lemmas.Option.{none-some}
use Rattle.std.proofs.lemmas.Nat.{mul-le}
use Rattle.ipmi_bus.proofs.DigitLemmas.{digits_most}
use Rattle.ipmi_bus.proofs.HeldLemmas.{keeps_first, keeps_same}
use Rattle.ipmi_bus.proofs.ShelfLemmas.{look_row}
use Rattle.ipmi_bus.proofs.WalkLemmas.{place_after_rows-last, walk_law}
use Rattle.ipmi_capture.specs.Accounted.{EndsWhole, HasEnded}
use Rattle.ipmi_capture.specs.Below.{asked_at, AsksAtMost, Cycle, cycle_at, CursorHoldsCurrent, CursorState, digits, End, Id, id_in, has_id, handed_id, may_follow, NotGivenUpOrRefused, Place, place_after, place_after_rows, StepAnswers, StepIsHonest, StepIsPlain, store_shelf, whole_len, Ended, EndsBy, First, first_row, GaveUp, HandsOut, IsHonest, IsStep, IsWalk, Keeps, largest_len, last_next, Malformed, Missing, Refused, Row, rows_of, Sdr, Seen, Sel, Shelf, StandsAt, Stalled, stays_refl, stays_trans, StaysHonest, step_call_bound, Store, WalkEnd, WalkStep, with_rows, WithinTries}
use Rattle.ipmi_capture.specs.Left.{CountsGrow, EndsAs}
use Rattle.ipmi_capture.specs.Phases.{CameKept, CameOf, most_on_walk, NoneIsFaulty, PlainEnds, Walks, WalksWhile}
use Rattle.ipmi_capture.specs.declared.left.Left.{Left}
use Rattle.std.specs.Option.{option_to_list}
use Rattle.ipmi_capture.proofs.EndLemmas.{after_more, after_none, end_or_id, ended_as, IsAfter, whole}
use Rattle.ipmi_capture.proofs.CountLemmas.{counted_after, counted_record, grown_by, grown_none, grown_then, grown_within}
use Rattle.ipmi_capture.proofs.LogLemmas.{WalkedWhile, while_again, while_done, while_ended, while_more, while_none}

-- ---- the rows of a shelf

pub rows_of-with_rows : (shelf : Shelf) (rows : List Row) (store : Store)
    → rows_of shelf (with_rows shelf rows store) ≡ rows
rows_of-with_rows Sdr rows store = refl
rows_of-with_rows Sel rows store = refl

pub with_rows-again : (shelf : Shelf) (a b : List Row) (store : Store)
    → with_rows shelf a (with_rows shelf b store) ≡ with_rows shelf a store
with_rows-again Sdr a b store = refl
with_rows-again Sel a b store = refl

pub with_rows-own : (shelf : Shelf) (store : Store) → store ≡ with_rows shelf (rows_of shelf store) store
with_rows-own Sdr store = refl
with_rows-own Sel store = refl

-- ---- digits

-- a part size has at least one digit
digits_some : (n : ℕ) → 0 < n → 1 ≤ digits n
digits_some n some = grind (arith, nat_tests)

-- ---- a record that may follow others

-- the bytes of a first record begin with its id, and the id of a later one is not 0000h
abbrev MayBe : List Row → Row → Type 0
MayBe [] row = id_in row.bytes ≡ row.id
MayBe (r ∷ rows) row = row.id ≢ 0

may_follow_these : (shelf : Shelf) (rows : List Row) (row : Row) → row.id ≢ 65535
    → length row.bytes ≡ whole_len shelf row.bytes → length row.bytes ≤ largest_len shelf
    → has_id rows row.id ≡ false → MayBe rows row → may_follow shelf rows row ≡ true
may_follow_these shelf [] row id whole fits unseen may =
    let whole_is : nat_eq (length row.bytes) (whole_len shelf row.bytes) ≡ true = grind (arith, nat_tests, whole) in
    let fits_is : nat_lt (largest_len shelf) (length row.bytes) ≡ false = grind (arith, nat_tests, fits) in
    let first_is : nat_eq (id_in row.bytes) row.id ≡ true = grind (arith, nat_tests, may) in
    let id_is : nat_eq row.id 65535 ≡ false = grind (arith, nat_tests, id) in
    grind (arith, nat_tests, whole_is, fits_is, first_is, id_is)
may_follow_these shelf (r ∷ rows) row id whole fits unseen may =
    let whole_is : nat_eq (length row.bytes) (whole_len shelf row.bytes) ≡ true = grind (arith, nat_tests, whole) in
    let fits_is : nat_lt (largest_len shelf) (length row.bytes) ≡ false = grind (arith, nat_tests, fits) in
    let zero_is : nat_eq row.id 0 ≡ false = grind (arith, nat_tests, may) in
    let id_is : nat_eq row.id 65535 ≡ false = grind (arith, nat_tests, id) in
    rw (zero_is, id_is, unseen, whole_is, fits_is) refl

not_first : (start : Place) (rows : List Row) → start ≢ First → place_after_rows start rows ≢ First
not_first start [] not = not
not_first start (row ∷ rows) not = not_first (place_after row.next) rows (λ is. grind (arith, is))

id_now : (place : Place) (ids : set.FinSet nat_cmp) (rows : List Row) (row : Row)
    → place ≡ place_after_rows First rows → place ≢ End → cycle_at place ids ≡ None
    → row.id ≡ handed_id place (asked_at place) row.bytes → MayBe rows row
id_now place ids [] row at not_end none id = sym (rw at at id)
id_now place ids (r ∷ rows) row at not_end none id =
    by place not_end (λ is. not_first (place_after r.next) rows (λ is'. grind (arith, is')) (sym at ∙ is)) none id
  where
    by : (p : Place) → p ≢ End → p ≢ First → cycle_at p ids ≡ None
        → row.id ≡ handed_id p (asked_at p) row.bytes → row.id ≢ 0
    by First not_end not none id = absurd (not refl)
    by End not_end not none id = absurd (not_end refl)
    by (Id n) not_end not none id = λ zero. grind (arith, nat_tests, none, id, zero)

-- ---- sequences of calls

pub between : (s s' s'' : Seen) → StaysHonest s s' → StaysHonest s' s''
    → s''.stores_added ≡ s.stores_added
    → (s'.stores_added ≡ s.stores_added) × (s''.stores_added ≡ s'.stores_added)
between s s' s'' before later same = omega (arith, before.store.grows, later.store.grows, same)

-- ---- the state so far

-- if the rows of the shelf did not change: the first rows of each walk were read, and the cursor is after them
abbrev Along : Shelf → Seen → Seen → CursorState → List Row → Type 0
Along shelf s s' cursor rows = Keeps (rows_of shelf) s s' → (walk : List Row) (end : WalkEnd)
    → IsWalk (rows_of shelf s.store) First walk → EndsBy (rows_of shelf s.store) First walk end
    → (rows ≡ take (length rows) walk) × StandsAt (rows_of shelf s.store) First walk (length rows) cursor

pub record Walked (shelf : Shelf) (part tries : ℕ) (s s' : Seen) (cursor : CursorState)
    (old new : Store) : Type 0 where
  pub beside : new ≡ with_rows shelf (rows_of shelf new) old
  pub shelf_is : cursor.shelf ≡ shelf
  pub tries_are : cursor.tries ≡ tries
  pub some : 0 < cursor.part
  pub falls : cursor.part ≤ part
  pub room : set.len cursor.ids ≤ 65536
  pub calls : s'.calls + digits cursor.part
      ≤ s.calls + set.len cursor.ids * step_call_bound tries (largest_len shelf) + digits part
  pub asked : AsksAtMost part s s'
  pub stays : IsHonest s → StaysHonest s s'
  pub counts : IsHonest s → CountsGrow s s'
  pub after : IsAfter (rows_of shelf new) cursor
  pub along : IsHonest s → Along shelf s s' cursor (rows_of shelf new)
  pub meanwhile : IsHonest s → WalkedWhile shelf s s' cursor (rows_of shelf new)
  pub holds : IsHonest s → IsTrue s.plain → CursorHoldsCurrent cursor s'

-- at the start: nothing was read
pub walked_none : (shelf : Shelf) (part tries : ℕ) (s : Seen) (cursor : CursorState) (old : Store)
    → 0 < part → rows_of shelf old ≡ []
    → cursor ≡ record {
      shelf = shelf;
      place = First;
      part = part;
      tries = tries;
      ahead = false;
      ids = set.empty;
      reservation = None;
    } → ((rows walk : List Row) → StandsAt rows First walk 0 cursor)
    → Walked shelf part tries s s (record cursor { ahead = true }) old old
walked_none shelf part tries s begun old some none fresh_begun stands_begun =
    let cursor : CursorState = record begun { ahead = true } in
    let fresh : cursor ≡ record { shelf = shelf; place = First; part = part; tries = tries; ahead = true; ids = set.empty; reservation = None } =
    ap (λ (x : CursorState). record x { ahead = true }) fresh_begun in
    let stands : (rows walk : List Row) → StandsAt rows First walk 0 cursor =
    λ rows walk. let there = stands_begun rows walk in record { within = there.within; place = there.place; ids = there.ids } in
    let ids : set.len cursor.ids ≡ 0 = ap (λ (x : CursorState). set.len x.ids) fresh ∙ len-empty nat_cmp in
    let part_is : cursor.part ≡ part = ap (λ (x : CursorState). x.part) fresh in
    record {
      beside = with_rows-own shelf old;
      shelf_is = ap (λ (x : CursorState). x.shelf) fresh;
      tries_are = ap (λ (x : CursorState). x.tries) fresh;
      some = omega (arith, part_is, some);
      falls = omega (arith, part_is);
      room = omega (arith, ids);
      calls = rw (ids, part_is) (omega arith);
      asked = omega arith;
      stays = λ h. stays_refl s h;
      counts = λ h. grown_none s;
      after = rw none (after_none cursor (ap (λ (x : CursorState). x.ids) fresh) (ap (λ (x : CursorState). x.place) fresh));
      along = λ h kept walk end is ends. rw none (refl, stands (rows_of shelf s.store) walk);
      meanwhile = λ h. rw none (while_none shelf s cursor h (ap (λ (x : CursorState). x.shelf) fresh) stands);
      holds = λ h p. record { held = λ n is. absurd (none-some n (sym (ap (λ (x : CursorState). x.reservation) fresh) ∙ is)) };
    }

-- one more step
module _ {shelf : Shelf} {part tries : ℕ} {s s' s'' : Seen} {now next : CursorState}
    {old new : Store} {result : Result (Option Row) Ended}
    (walked : Walked shelf part tries s s' now old new) (step : IsStep now next s' s'' result) where
  pub asked_on : AsksAtMost part s s''
  asked_on = omega (arith, walked.asked, step.asked, walked.falls)

  pub stays_on : IsHonest s → StaysHonest s s''
  stays_on h = stays_trans s s' s'' (walked.stays h) (step.honest (walked.stays h).honest).stays

  -- the number of calls is within the bound of a walk
  pub calls_on : s''.calls ≤ s.calls + most_on_walk shelf tries
  calls_on =
      let each = step_call_bound tries (largest_len shelf) in
      let one : (set.len now.ids + 1) * each ≡ set.len now.ids * each + each = omega arith in
      elim step.room [
        | inl nothing ↦ omega (arith, walked.calls, mul-le (set.len now.ids) each 65536 each walked.room (omega arith), ap (λ (x : Seen). x.calls) (step.no_call nothing), digits_most part, digits_some now.part walked.some)
        | inr room ↦ omega (arith, walked.calls, one, mul-le (set.len now.ids + 1) each 65536 each (omega (arith, room)) (omega arith), rw (walked.shelf_is, walked.tries_are) at step.calls, digits_most part, digits_some next.part step.same.part_not_zero)
      ]

  step_honest : IsHonest s → StepIsHonest now next s' s'' result
  step_honest h = step.honest (walked.stays h).honest

  step_plain : IsHonest s → IsTrue s.plain → StepIsPlain now next s'' result
  step_plain h p = (step_honest h).plain ((walked.stays h).plain p) (walked.holds h p)

  kept_first : IsHonest s → Keeps (rows_of shelf) s s'' → Keeps (rows_of shelf) s s'
  kept_first h kept = keeps_first (rows_of shelf) s s' s'' (walked.stays h).store (step_honest h).stays.store kept

  -- no store was added
  kept_same : IsHonest s → s''.stores_added ≡ s.stores_added → Keeps (rows_of shelf) s s''
  kept_same h same = keeps_same (rows_of shelf) s s'' (stays_on h).store same

  -- the step along a walk
  pub stepped : IsHonest s → Keeps (rows_of shelf) s s'' → (walk : List Row) (end : WalkEnd)
      → IsWalk (rows_of shelf s.store) First walk → EndsBy (rows_of shelf s.store) First walk end
      → (rows_of shelf new ≡ take (length (rows_of shelf new)) walk)
      × WalkStep (rows_of shelf s.store) First walk end (length (rows_of shelf new)) now next result
  stepped h kept walk end is ends =
      let later = step_honest h in
      let there = walked.along h (kept_first h kept) walk end is ends in
      let rows : rows_of now.shelf s''.store ≡ rows_of shelf s.store = rw walked.shelf_is kept.0 in
      let law = walk_law now next s'' First walk (length (rows_of shelf new)) (store_shelf now.shelf s''.store later.stays.honest.store) (rw rows is) (rw rows there.1) s' end (rw rows ends) result step.leaves later.answers in
      (there.0, rw rows at law)

  -- first rows that are as many as the walk's rows are the whole walk
  all_rows : (walk : List Row) (rows : List Row) → rows ≡ take (length rows) walk
      → length rows ≡ length walk → rows ≡ walk
  all_rows walk rows is all = is ∙ take_all (length rows) walk (omega (arith, all))

  -- the rows read of a shelf whose rows did not change
  ended_kept : (ended : Ended) → result ≡ Err ended → IsHonest s → CameKept shelf s s'' (rows_of shelf new) (Some ended)
  ended_kept ended is h = λ kept walk end walks ends.
      let at = stepped h kept walk end walks ends in
      by walk end ended at.0 (rw is at at.1)
    where
      by : (walk : List Row) (end : WalkEnd) (e : Ended)
          → rows_of shelf new ≡ take (length (rows_of shelf new)) walk
          → WalkStep (rows_of shelf s.store) First walk end (length (rows_of shelf new)) now next (Err e)
          → CameOf walk end (rows_of shelf new) (Some e)
      by walk end (Cycle n) rows step = (all_rows _ _ rows step.0, step.1)
      by walk end (Missing n) rows step = (all_rows _ _ rows step.0, step.1)
      by walk end (GaveUp n) rows step = rows
      by walk end (Refused n code) rows step = rows
      by walk end (Stalled n) rows step = rows
      by walk end (Malformed n) rows step = rows

  done_kept : result ≡ Ok None → IsHonest s → CameKept shelf s s'' (rows_of shelf new) None
  done_kept is h = λ kept walk end walks ends.
      let at = stepped h kept walk end walks ends in
      let step = rw is at at.1 in
      (all_rows walk (rows_of shelf new) at.0 step.0, step.1)

  -- the step ended the listing
  pub came_ended : {S : Seen → Type 0} → S s' → S s'' → (ended : Ended) → result ≡ Err ended → IsHonest s
      → Walks S shelf tries s s'' (rows_of shelf new) (Some ended)
  came_ended {S = S} from to ended is h = record {
    along = λ same. ended_kept ended is h (kept_same h same);
    none_faulty = well ended (rw is at (step_honest h).answers);
    plain = λ p. fine ended (rw is at (step_honest h).answers) (rw is at (step_plain h p).fine);
    counts = counted_after S tries (Left.Records shelf ended ∷ []) s'' (walked.counts h) (counted_record S tries shelf now ended walked.tries_are from to (rw is at (step_honest h).answers));
  }
    where
      well : (e : Ended) → StepAnswers now s' s'' (Err e) → NoneIsFaulty (Some e)
      well (Cycle n) answers = tt
      well (Missing n) answers = tt
      well (GaveUp n) answers = tt
      well (Refused n code) answers = tt
      well (Stalled n) answers = answers
      well (Malformed n) answers = answers

      fine : (e : Ended) → StepAnswers now s' s'' (Err e) → NotGivenUpOrRefused {V = Option Row} (Err e) → PlainEnds (Some e)
      fine (Cycle n) answers given = tt
      fine (Missing n) answers given = tt
      fine (GaveUp n) answers given = given
      fine (Refused n code) answers given = given
      fine (Stalled n) answers given = answers
      fine (Malformed n) answers given = answers

  pub came_done : {S : Seen → Type 0} → result ≡ Ok None → IsHonest s → Walks S shelf tries s s'' (rows_of shelf new) None
  came_done is h = record {
    along = λ same. done_kept is h (kept_same h same);
    none_faulty = tt;
    plain = λ p. tt;
    counts = grown_then (walked.counts h) (grown_within (none (rw is at (step_honest h).answers)));
  }
    where
      none : StepAnswers now s' s'' (Ok None) → WithinTries now.tries s' s''
      none answers = answers.0

  -- the same, over any change
  pub ended_while : (ended : Ended) → result ≡ Err ended → IsHonest s → WalksWhile shelf s s'' (rows_of shelf new) (Some ended)
  ended_while ended is h = while_ended h (walked.stays h) (walked.meanwhile h) step ended is (ended_kept ended is h)

  pub done_while : result ≡ Ok None → IsHonest s → WalksWhile shelf s s'' (rows_of shelf new) None
  done_while is h = while_done h (walked.stays h) (walked.meanwhile h) step is (done_kept is h)

  -- the step returned a record
  came_record : {row : Row} → result ≡ Ok (Some row) → IsHonest s → CountsGrow s s''
  came_record {row = row} is h = grown_then (walked.counts h) (grown_within (one (rw is at (step_honest h).answers)))
    where
      one : StepAnswers now s' s'' (Ok (Some row)) → WithinTries now.tries s' s''
      one answers = answers.0

  -- the walk ends as the step says
  pub done_whole : result ≡ Ok None → EndsWhole (rows_of shelf new) s''
  done_whole is = whole walked.after s'' (rw is at step.leaves).1.from (λ first. ((rw is at step.says) first).1)

  pub has_ended : (ended : Ended) → result ≡ Err ended → HasEnded shelf (rows_of shelf new) (Some ended) s''
  has_ended ended is = (
    subst (λ (x : Shelf). EndsAs x (rows_of shelf new) ended) walked.shelf_is (ended_as walked.after next ended (rw is at step.leaves)),
    rw is at step.says,
  )

  -- a record that may not follow is the first one, with the id FFFFh
  module _ {row : Row} (is : result ≡ Ok (Some row)) (left : may_follow shelf (rows_of shelf new) row ≡ false) where
    lent : HandsOut now next row
    lent = (rw is at step.leaves).1

    may_be : MayBe (rows_of shelf new) row
    may_be = id_now now.place now.ids (rows_of shelf new) row walked.after.place lent.not_at_end (rw is at step.leaves).0 lent.id

    -- its id is FFFFh
    its_id : row.id ≡ 65535
    its_id = by (row.id == 65535) refl
      where
        by : (b : Bool) → (row.id == 65535) ≡ b → row.id ≡ 65535
        by true same = grind (arith, nat_tests, same)
        by false other = absurd (true≢false (sym (may_follow_these shelf (rows_of shelf new) row (λ same. grind (arith, nat_tests, other, same))
            (rw walked.shelf_is at lent.whole) (rw walked.shelf_is at lent.fits) (sym (walked.after.ids row.id) ∙ lent.unseen) may_be) ∙ left))

    -- no other record was read
    is_first : rows_of shelf new ≡ []
    is_first = by (rows_of shelf new) walked.after.place
      where
        by : (l : List Row) → now.place ≡ place_after_rows First l → l ≡ []
        by [] place = refl
        by (r ∷ l) place = absurd (not_last (last_next r.next l) (place ∙ place_after_rows-last r.next l))
          where
            not_last : (n : ℕ) → now.place ≡ place_after n → ⊥
            not_last n at = elim (end_or_id n) [
              | inl ended ↦ lent.not_at_end (at ∙ ended.1)
              | inr other ↦ other.0 (sym (lent.id ∙ ap (λ (p : Place). handed_id p (asked_at p) row.bytes) (at ∙ other.1)) ∙ its_id)
            ]

    pub is_malformed : HasEnded shelf (rows_of shelf new) (Some (Malformed row.id)) s''
    is_malformed = (inr (is_first, its_id), rw is at step.says)

    -- an honest controller has none
    pub never_malformed : IsHonest s → ⊥
    never_malformed h =
        let answers = step_honest h in
        let looked = rw is at answers.answers in
        let row_is = look_row shelf (rows_of shelf s''.store) (asked_at now.place) row (store_shelf shelf s''.store answers.stays.honest.store) (rw walked.shelf_is at looked.1) in
        omega (arith, row_is.id, its_id)

  -- the record adds one id
  pub ids_next : {row : Row} → result ≡ Ok (Some row)
      → (set.len next.ids ≡ set.len now.ids + 1) × (set.len next.ids ≤ 65536)
  ids_next {row = row} is =
      let hands = (rw is at step.leaves).1 in
      (rw hands.ids (len-insert nat_cmp_total now.ids row.id ∙ rw hands.unseen refl), hands.at_most)

  -- the record is appended to the others
  module _ {row : Row} (is : result ≡ Ok (Some row)) {more : Store}
      (put : more ≡ with_rows shelf (rows_of shelf new ++ row ∷ []) new) where
    hands : HandsOut now next row
    hands = (rw is at step.leaves).1

    rows_are : rows_of shelf more ≡ rows_of shelf new ++ row ∷ []
    rows_are = ap (rows_of shelf) put ∙ rows_of-with_rows shelf (rows_of shelf new ++ row ∷ []) new

    beside_more : more ≡ with_rows shelf (rows_of shelf more) old
    beside_more = rw rows_are (put ∙ ap (with_rows shelf (rows_of shelf new ++ row ∷ [])) walked.beside ∙ with_rows-again shelf (rows_of shelf new ++ row ∷ []) (rows_of shelf new) old)

    ids_more : set.len next.ids ≡ set.len now.ids + 1
    ids_more = (ids_next is).0

    along_more : IsHonest s → Along shelf s s'' next (rows_of shelf more)
    along_more h = λ kept walk end walks ends.
        let at = stepped h kept walk end walks ends in
        let there = rw is at at.1 in
        let count = length (rows_of shelf new) in
        let long : length (rows_of shelf more) ≡ count + 1 = ap length rows_are ∙ length-append (rows_of shelf new) (row ∷ []) in
        rw long (rows_are ∙ next_row (rows_of shelf new) walk at.0 there.0, there.1)
      where
        first_is : (l : List Row) → first_row l ≡ Some row → take 1 l ≡ row ∷ []
        first_is l is = grind arith

        next_row : (rows walk : List Row) → rows ≡ take (length rows) walk
            → first_row (drop (length rows) walk) ≡ Some row
            → rows ++ row ∷ [] ≡ take (length rows + 1) walk
        next_row rows walk are first = rw (take-add (length rows) 1 walk, first_is (drop (length rows) walk) first, sym are) refl

    pub walked_more : Walked shelf part tries s s'' next old more
    walked_more =
        let each = step_call_bound tries (largest_len shelf) in
        let one : (set.len now.ids + 1) * each ≡ set.len now.ids * each + each = omega arith in
        record {
          beside = beside_more;
          shelf_is = step.same.shelf ∙ walked.shelf_is;
          tries_are = step.same.tries ∙ walked.tries_are;
          some = step.same.part_not_zero;
          falls = omega (arith, step.same.part, walked.falls);
          room = hands.at_most;
          calls = rw ids_more (omega (arith, walked.calls, rw (walked.shelf_is, walked.tries_are) at step.calls, one));
          asked = asked_on;
          stays = stays_on;
          counts = came_record is;
          after = rw rows_are (after_more walked.after hands);
          along = along_more;
          meanwhile = λ h. rw rows_are (while_more h (walked.stays h) (walked.meanwhile h) step walked.shelf_is is);
          holds = λ h p. (step_plain h p).holds;
        }

-- ---- a shelf that is read again

pub record IsAgain (shelf : Shelf) (part tries times : ℕ) (s s' : Seen) (old new : Store) : Type 0 where
  pub beside : new ≡ with_rows shelf [] old
  pub calls : s'.calls ≤ s.calls + times * most_on_walk shelf tries
  pub asked : AsksAtMost part s s'
  pub stays : IsHonest s → StaysHonest s s'
  pub counts : IsHonest s → CountsGrow s s'

module _ {shelf : Shelf} {part tries times : ℕ} {s s' s'' : Seen} {old now new : Store}
    (again : IsAgain shelf part tries times s s' old now)
    (beside : new ≡ with_rows shelf (rows_of shelf new) now)
    (calls : s''.calls ≤ s'.calls + most_on_walk shelf tries) (asked : AsksAtMost part s' s'')
    (stays : IsHonest s' → StaysHonest s' s'') where
  pub beside_all : new ≡ with_rows shelf (rows_of shelf new) old
  beside_all = beside ∙ ap (with_rows shelf (rows_of shelf new)) again.beside ∙ with_rows-again shelf (rows_of shelf new) [] old

  pub stays_all : IsHonest s → StaysHonest s s''
  stays_all h = stays_trans s s' s'' (again.stays h) (stays (again.stays h).honest)

  pub calls_all : times < 4 → s''.calls ≤ s.calls + 4 * most_on_walk shelf tries
  calls_all few =
      let next : (times + 1) * most_on_walk shelf tries ≡ times * most_on_walk shelf tries + most_on_walk shelf tries = omega arith in
      omega (arith, again.calls, calls, next, mul-le (times + 1) (most_on_walk shelf tries) 4 (most_on_walk shelf tries) (omega (arith, few)) (omega arith))

  pub asked_all : AsksAtMost part s s''
  asked_all = omega (arith, again.asked, asked)

  pub walks_all : {S : Seen → Type 0} {ended : Option Ended} → (IsHonest s' → Walks S shelf tries s' s'' (rows_of shelf new) ended)
      → IsHonest s → Walks S shelf tries s s'' (rows_of shelf new) ended
  walks_all {S = S} {ended = ended} walks h = record {
    along = λ same walk end is ends.
        let before = again.stays h in
        let parts = between s s' s'' before (stays before.honest) same in
        let rows : rows_of shelf s'.store ≡ rows_of shelf s.store = ap (rows_of shelf) (before.store.stays parts.0) in
        (rw rows at ((walks before.honest).along parts.1 walk end)) is ends;
    none_faulty = (walks (again.stays h).honest).none_faulty;
    plain = λ p. let before = again.stays h in (walks before.honest).plain (before.plain p);
    counts = counted_after S tries (map (Left.Records shelf) (option_to_list ended)) s'' (again.counts h) (walks (again.stays h).honest).counts;
  }

  pub walks_all_ok : (S : Seen → Type 0) (result : Result (Option Ended) AllocError)
      → (IsHonest s' → IfOk result (λ ended. Walks S shelf tries s' s'' (rows_of shelf new) ended))
      → IsHonest s → IfOk result (λ ended. Walks S shelf tries s s'' (rows_of shelf new) ended)
  walks_all_ok S (Ok ended) walks h = walks_all walks h
  walks_all_ok S (Err e) walks h = tt

  pub while_all_ok : (result : Result (Option Ended) AllocError)
      → (IsHonest s' → IfOk result (λ ended. WalksWhile shelf s' s'' (rows_of shelf new) ended))
      → IsHonest s → IfOk result (λ ended. WalksWhile shelf s s'' (rows_of shelf new) ended)
  while_all_ok (Ok ended) walks h = let before = again.stays h in while_again s s' s'' before (stays before.honest) (walks before.honest)
  while_all_ok (Err e) walks h = tt

  -- with its rows cleared
  pub again_cleared : {S : Seen → Type 0} {cleared : Store} {ended : Option Ended} → cleared ≡ with_rows shelf [] new
      → (IsHonest s' → Walks S shelf tries s' s'' (rows_of shelf new) ended)
      → IsAgain shelf part tries (times + 1) s s'' old cleared
  again_cleared {S = S} {ended = ended} is walks = record {
    beside = is ∙ ap (with_rows shelf []) beside_all ∙ with_rows-again shelf [] (rows_of shelf new) old;
    calls = let next : (times + 1) * most_on_walk shelf tries ≡ times * most_on_walk shelf tries + most_on_walk shelf tries = omega arith in omega (arith, again.calls, calls, next);
    asked = asked_all;
    stays = stays_all;
    counts = λ h. grown_then (again.counts h) (grown_by S tries (map (Left.Records shelf) (option_to_list ended)) s' s'' (walks (again.stays h).honest).counts);
  }
