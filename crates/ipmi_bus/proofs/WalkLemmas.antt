-- Walks, row by row.
use Rattle.std.proofs.Common.{◌≡◌, ◌≢◌, ℕ, ◌+◌, ◌<◌, ◌≤◌, Bool, false, nat_eq, ◌||◌, Option, None, Some, Result, Ok, Err, List, [], ◌∷◌, ◌++◌, length, take, drop, refl, sym, ap, subst, ◌∙◌, inl, inr, rules, arith, ◌⊎◌, ne_eqb, nat_cmp, take_all, take-append-drop, length-drop, take-add}
use Rattle.std.specs.FinSet as set
use Rattle.std.proofs.Math.Bool.{or-false, or_assoc, or_comm}
use Rattle.ipmi_bus.specs.Prelude.{Shelf, Place, First, Id, End, Row, IsShelf, look, len_of, first_row, DistinctIds, LacksId, row_at, IsWalk, place_after, place_after_rows, has_id, WalkEnd, Done, CycleAt, MissingAt, EndsBy, EndsAfter, EndsEmpty, last_next, Ended, Cycle, Missing, CursorState, asked_at, cycle_at, AsksAlong, AsksNothing, StaysThere, StepLeaves, StepAnswers, StepIsHonest, StepSays, KeepsSettings, AsksAtMost, AreWithin, FirstAsks, largest_len, IsStep, StandsAt, WalkStep, MayFail, FollowsWalks, store_shelf, Store, rows_of, Seen, IsHonest, StaysHonest, Refused, GaveUp}
use Rattle.std.specs.FinSet.{contains-insert, contains-empty}
use Rattle.std.specs.Cmp.{nat_cmp_total, unsigned_tied}
use Rattle.std.proofs.lemmas.Bool.Decides.{nat_tests}
use Rattle.std.proofs.Math.Seq.{drop-nil}
use Rattle.ipmi_bus.proofs.ShelfLemmas.{look_row, found_row}

place_after-id : (next : ℕ) → next ≢ 65535 → place_after next ≡ Id next
place_after-id next ne = rw (ne_eqb next 65535 ne) refl

-- the row at an id other than 0000h
pub row_at-id : (rows : List Row) (n : ℕ) → n ≢ 0 → row_at (Id n) rows ≡ look rows n
row_at-id rows n ne = rw (ne_eqb n 0 ne) refl

-- the rows after a walk's first row are a walk from the place after that row
pub walk_tail : (shelf : Shelf) (rows : List Row) (start : Place) (row : Row) (walk : List Row)
    → IsShelf shelf rows → IsWalk rows start (row ∷ walk) → IsWalk rows (place_after row.next) walk
walk_tail shelf rows start row [] ok w = record { of_shelf = w.of_shelf.1; distinct = w.distinct.1; first = search rules; links = search rules }
walk_tail shelf rows start row (after ∷ walk) ok w =
    let found = w.of_shelf.1.0 in
    let not_end : after.id ≢ 65535 = λ (e : after.id ≡ 65535). absurd (omega (arith, (look_row shelf rows after.id after ok found).id)) in
    let place : place_after row.next ≡ Id after.id = ap place_after w.links.0 ∙ place_after-id after.id not_end in
    record {
      of_shelf = w.of_shelf.1;
      distinct = w.distinct.1;
      first = rw place (row_at-id rows after.id w.links.1 ∙ found);
      links = w.links.2;
    }

-- the row after the first rows of a walk is the row at the place after them
pub row_at-next : (shelf : Shelf) (rows : List Row) (start : Place) (done : List Row) (row : Row)
    (walk : List Row) → IsShelf shelf rows → IsWalk rows start (done ++ row ∷ walk)
    → row_at (place_after_rows start done) rows ≡ Some row
row_at-next shelf rows start [] row walk ok w = w.first
row_at-next shelf rows start (d ∷ done) row walk ok w = row_at-next shelf rows (place_after d.next) done row walk ok (walk_tail shelf rows start d (done ++ row ∷ walk) ok w)

lacks_here : (n : ℕ) (done : List Row) (row : Row) (walk : List Row)
    → LacksId n (done ++ row ∷ walk) → row.id ≢ n
lacks_here n [] row walk lacks = lacks.0
lacks_here n (d ∷ done) row walk lacks = lacks_here n done row walk lacks.1

-- and its id is not one of theirs
pub has_id-next : (done : List Row) (row : Row) (walk : List Row) → DistinctIds (done ++ row ∷ walk)
    → has_id done row.id ≡ false
has_id-next [] row walk distinct = refl
has_id-next (d ∷ done) row walk distinct =
    let apart : nat_eq row.id d.id ≡ false = ne_eqb row.id d.id (lacks_here d.id done row walk distinct.0) in
    rw apart (has_id-next done row walk distinct.1)

-- the id requested at a place that has a row
pub look-asked_at : (place : Place) (rows : List Row) (row : Row) → row_at place rows ≡ Some row
    → look rows (asked_at place) ≡ Some row
look-asked_at place rows row found = grind (arith, nat_tests)

-- it is the id of the row
pub id-row_at : (shelf : Shelf) (rows : List Row) (n : ℕ) (row : Row) → IsShelf shelf rows
    → row_at (Id n) rows ≡ Some row → (nat_eq n 0 ≡ false) × (row.id ≡ n)
id-row_at shelf rows n row ok found = grind (arith, nat_tests, found_row shelf rows n row ok.all)

pub cycle_at-none : (shelf : Shelf) (rows : List Row) (place : Place) (ids : set.FinSet nat_cmp)
    (done : List Row) (row : Row) → IsShelf shelf rows
    → ((n : ℕ) → set.contains ids n ≡ has_id done n) → has_id done row.id ≡ false
    → row_at place rows ≡ Some row → cycle_at place ids ≡ None
cycle_at-none shelf rows (Id n) ids done row ok same fresh found =
    let is = id-row_at shelf rows n row ok found in
    let out : set.contains ids n ≡ false = same n ∙ ap (has_id done) (sym is.1) ∙ fresh in
    rw (is.0, out) refl
cycle_at-none shelf rows _ ids done row ok same fresh found = refl

place_after_rows-append : (start : Place) (done : List Row) (row : Row)
    → place_after_rows start (done ++ row ∷ []) ≡ place_after row.next
place_after_rows-append start [] row = refl
place_after_rows-append start (d ∷ done) row = place_after_rows-append (place_after d.next) done row

pub has_id-append : (done : List Row) (row : Row) (n : ℕ)
    → has_id (done ++ row ∷ []) n ≡ (has_id done n || nat_eq n row.id)
has_id-append [] row n = or-false (nat_eq n row.id)
has_id-append (d ∷ done) row n = rw (has_id-append done row n) (sym (or_assoc (nat_eq n d.id) (has_id done n) (nat_eq n row.id)))

-- ---- the place at a walk's end

abbrev pub EndFacts : List Row → Place → Place → set.FinSet nat_cmp → WalkEnd → Type 0
EndFacts rows start place ids Done = (place ≡ End) ⊎ ((place ≡ First) × (start ≡ First) × (first_row rows ≡ None))
EndFacts rows start place ids (CycleAt n) = cycle_at place ids ≡ Some n
EndFacts rows start place ids (MissingAt n) = (place ≡ Id n) × (cycle_at place ids ≡ None) × (look rows n ≡ None)

pub place_after_rows-last : (next : ℕ) (walk : List Row)
    → place_after_rows (place_after next) walk ≡ place_after (last_next next walk)
place_after_rows-last next [] = refl
place_after_rows-last next (row ∷ walk) = place_after_rows-last row.next walk

after_facts : (rows : List Row) (start place : Place) (ids : set.FinSet nat_cmp) (walk : List Row)
    (next : ℕ) (end : WalkEnd) → EndsAfter rows walk next end → place ≡ place_after next
    → ((n : ℕ) → set.contains ids n ≡ has_id walk n)
    → EndFacts rows start place ids end
after_facts rows start place ids walk next end ends p same = grind (arith, nat_tests)

empty_walk_facts : (rows : List Row) (start place : Place) (ids : set.FinSet nat_cmp)
    (end : WalkEnd) → EndsEmpty rows start end → place ≡ start
    → ((n : ℕ) → set.contains ids n ≡ false) → EndFacts rows start place ids end
empty_walk_facts rows start place ids end ends p same = grind (arith, nat_tests)

pub end_facts : (rows : List Row) (start : Place) (walk : List Row) (place : Place)
    (ids : set.FinSet nat_cmp) (end : WalkEnd) → EndsBy rows start walk end
    → place ≡ place_after_rows start walk → ((n : ℕ) → set.contains ids n ≡ has_id walk n)
    → EndFacts rows start place ids end
end_facts rows start (row ∷ walk) place ids end ends p same = after_facts rows start place ids (row ∷ walk) (last_next row.next walk) end ends (p ∙ place_after_rows-last row.next walk) same
end_facts rows start [] place ids end ends p same = empty_walk_facts rows start place ids end ends p same

-- at the end of an empty shelf
empty_facts : (rows : List Row) (start : Place) (walk : List Row) (place : Place)
    (ids : set.FinSet nat_cmp) (end : WalkEnd) → IsWalk rows start walk → EndsBy rows start walk end
    → place ≡ End → start ≡ First → first_row rows ≡ None
    → EndFacts rows start place ids end
empty_facts rows start (row ∷ walk) place ids end w ends p first none = let h = sym (ap (λ (q : Place). row_at q rows) first) ∙ w.first in cc (h, none)
empty_facts rows start [] place ids end w ends p first none = grind arith

-- ---- a step on a walk

-- on a walk along the current rows of the controller
module _ (c new : CursorState) (seen : Seen) (start : Place) (walk : List Row) (k : ℕ)
    (ok : IsShelf c.shelf (rows_of c.shelf seen.store))
    (w : IsWalk (rows_of c.shelf seen.store) start walk)
    (stands : StandsAt (rows_of c.shelf seen.store) start walk k c) where
  abbrev rows : List Row
  rows = rows_of c.shelf seen.store

  still : StaysThere c new → StandsAt rows start walk k new
  still same = record {
    within = stands.within;
    place = elim stands.place [ inl p ↦ inl (same.place ∙ p) | inr e ↦ inr (same.place ∙ e.0, e.1, e.2) ];
    ids = λ n. ap (λ (s : set.FinSet nat_cmp). set.contains s n) same.ids ∙ stands.ids n;
  }

  -- before the walk's end
  module _ (row : Row) (rest : List Row) (split : drop k walk ≡ row ∷ rest) (end : WalkEnd) where
    whole : walk ≡ take k walk ++ row ∷ rest
    whole = sym (take-append-drop k walk) ∙ rw split refl

    w' : IsWalk rows start (take k walk ++ row ∷ rest)
    w' = subst (IsWalk rows start) whole w

    at_row : row_at c.place rows ≡ Some row
    at_row = elim stands.place [
      | inl p ↦ ap (λ (q : Place). row_at q rows) p ∙ row_at-next c.shelf rows start (take k walk) row rest ok w'
      | inr e ↦ absurd (not_empty walk w split e.1 e.2)
    ]
      where
        not_empty : (l : List Row) → IsWalk rows start l → drop k l ≡ row ∷ rest → start ≡ First
            → first_row rows ≡ None → ⊥
        not_empty [] w some first none = let h = sym (drop-nil k) ∙ some in cc h
        not_empty (x ∷ l) w some first none = let h = sym (ap (λ (q : Place). row_at q rows) first) ∙ w.first in cc (h, none)

    unseen : has_id (take k walk) row.id ≡ false
    unseen = has_id-next (take k walk) row rest w'.distinct

    none : cycle_at c.place c.ids ≡ None
    none = cycle_at-none c.shelf rows c.place c.ids (take k walk) row ok stands.ids unseen at_row

    found : look rows (asked_at c.place) ≡ Some row
    found = look-asked_at c.place rows row at_row

    more : take (k + 1) walk ≡ take k walk ++ row ∷ []
    more = take-add k 1 walk ∙ rw split refl

    len : k + 1 ≤ length walk
    len = omega (arith, length-drop k walk, ap (length {A = Row}) split)

    inside : (s : Seen) (result : Result (Option Row) Ended) → StepLeaves c new result
        → StepAnswers c s seen result → WalkStep rows start walk end k c new result
    inside s (Ok (Some r)) leaves answers =
        let found_r = answers.1 in
        let same : row ≡ r = cc (found, found_r) in (
          ap first_row split ∙ ap Some same,
          record {
            within = len;
            place = inl (leaves.1.place ∙ ap (λ (x : Row). place_after x.next) (sym same) ∙ sym (place_after_rows-append start (take k walk) row) ∙ ap (place_after_rows start) (sym more));
            ids = λ n.
                ap (λ (s : set.FinSet nat_cmp). set.contains s n) leaves.1.ids
                ∙ contains-insert nat_cmp_total c.ids r.id n
                ∙ ap (λ (b : Bool). b || set.contains c.ids n) (unsigned_tied n r.id ∙ ap (λ (x : Row). nat_eq n x.id) (sym same))
                ∙ ap (λ (b : Bool). nat_eq n row.id || b) (stands.ids n)
                ∙ or_comm (nat_eq n row.id) (has_id (take k walk) n)
                ∙ sym (has_id-append (take k walk) row n) ∙ ap (λ (l : List Row). has_id l n) (sym more);
          },
        )
    inside s (Ok None) leaves answers = let there = found in let at = at_row in let nothing = answers.1 in grind arith
    inside s (Err (Cycle n)) leaves answers = let h = sym none ∙ leaves.0 in cc h
    inside s (Err (Missing n)) leaves answers = let h = rw leaves.2 at found in let absent = answers.1 in cc (h, absent)
    inside s (Err (GaveUp n)) leaves answers = (still leaves.1.stays, λ (e : k ≡ length walk). absurd (omega (arith, len, e)))
    inside s (Err (Refused n code)) leaves answers = (still leaves.1.stays, λ (e : k ≡ length walk). absurd (omega (arith, len, e)))
    inside s _ leaves answers = absurd answers

  -- at the walk's end
  module _ (split : drop k walk ≡ []) (end : WalkEnd) (ends : EndsBy rows start walk end) where
    at_end : k ≡ length walk
    at_end = let h = ap (length {A = Row}) split in let within = stands.within in omega (arith, length-drop k walk, h)

    all : take k walk ≡ walk
    all = take_all k walk (omega (arith, at_end))

    -- the place at the walk's end, by how it ends
    facts : EndFacts rows start c.place c.ids end
    facts = elim stands.place [
      | inl p ↦ end_facts rows start walk c.place c.ids end ends (p ∙ ap (place_after_rows start) all) (λ n. stands.ids n ∙ ap (λ (l : List Row). has_id l n) all)
      | inr e ↦ empty_facts rows start walk c.place c.ids end w ends e.0 e.1 e.2
    ]

    may_fail : (e : WalkEnd) → EndFacts rows start c.place c.ids e → cycle_at c.place c.ids ≡ None
        → c.place ≢ End → MayFail e c.place
    may_fail e facts none open_ = grind arith

    -- there is no row to request
    asks_at_end : (e : WalkEnd) → EndFacts rows start c.place c.ids e
        → AsksNothing c ⊎ (look rows (asked_at c.place) ≡ None)
    asks_at_end e known = grind arith

    no_row : (e : WalkEnd) (row : Row) → EndFacts rows start c.place c.ids e
        → cycle_at c.place c.ids ≡ None → c.place ≢ End → look rows (asked_at c.place) ≡ Some row
        → ⊥
    no_row e row facts none open_ found = elim (asks_at_end e facts) [ inl asks ↦ (elim asks [ inl p ↦ open_ p | inr some ↦ cc (some, none) ]) | inr empty ↦ (let h = empty in cc (h, found)) ]

    ending : (s : Seen) (e : WalkEnd) → EndFacts rows start c.place c.ids e
        → (result : Result (Option Row) Ended) → StepLeaves c new result
        → StepAnswers c s seen result → WalkStep rows start walk e k c new result
    ending s e facts (Ok (Some r)) leaves answers = absurd (no_row e r facts leaves.0 leaves.1.not_at_end answers.1)
    ending s Done facts (Ok None) leaves answers = (
      at_end,
      refl,
      record {
        within = stands.within;
        place = elim facts [ inl p ↦ elim stands.place [ inl q ↦ inl (leaves.1.place ∙ (sym p ∙ q)) | inr e ↦ inr (leaves.1.place, e.1, e.2) ] | inr h ↦ inr (leaves.1.place, h.1, h.2) ];
        ids = λ n. ap (λ (s : set.FinSet nat_cmp). set.contains s n) leaves.1.ids ∙ stands.ids n;
      },
    )
    ending s e facts (Ok None) leaves answers = let closed = leaves.0 in let nothing = answers.1 in grind arith
    ending s e facts (Err (Cycle n)) leaves answers = (at_end, (let closed = leaves.0 in grind arith), still leaves.1)
    ending s e facts (Err (Missing n)) leaves answers = (at_end, (let closed = leaves.0 in let at = leaves.2 in grind arith), still leaves.1)
    ending s e facts (Err (GaveUp n)) leaves answers = (still leaves.1.stays, λ _. may_fail e facts leaves.0 leaves.1.not_at_end)
    ending s e facts (Err (Refused n code)) leaves answers = (still leaves.1.stays, λ _. may_fail e facts leaves.0 leaves.1.not_at_end)
    ending s e facts _ leaves answers = absurd answers

  -- a step on a walk that has an end
  pub walk_law : (s : Seen) (end : WalkEnd) → EndsBy rows start walk end
      → (result : Result (Option Row) Ended) → StepLeaves c new result → StepAnswers c s seen result
      → WalkStep rows start walk end k c new result
  walk_law s end ends result leaves answers = by_rest (drop k walk) refl
    where
      by_rest : (l : List Row) → drop k walk ≡ l → WalkStep rows start walk end k c new result
      by_rest [] is = ending is end ends s end (facts is end ends) result leaves answers
      by_rest (row ∷ rest) is = inside row rest is end s result leaves answers

  -- a cursor at End is at the end of the walk
  pub all_at_end : c.place ≡ End → k ≡ length walk
  all_at_end is = by_rest (drop k walk) refl
    where
      by_rest : (l : List Row) → drop k walk ≡ l → k ≡ length walk
      by_rest [] split = let h = ap (length {A = Row}) split in let within = stands.within in omega (arith, length-drop k walk, h)
      by_rest (row ∷ rest) split = let h = sym (ap (λ (q : Place). row_at q rows) is) ∙ at_row row rest split Done in cc h

  -- a step requests the next row of the walk, or at its end no row, or makes no call
  pub asks_next : (end : WalkEnd) → EndsBy rows start walk end
      → AsksNothing c ⊎ (len_of (look rows (asked_at c.place)) ≡ len_of (first_row (drop k walk)))
  asks_next end ends = by_rest (drop k walk) refl
    where
      by_rest : (l : List Row) → drop k walk ≡ l
          → AsksNothing c ⊎ (len_of (look rows (asked_at c.place))
          ≡ len_of (first_row (drop k walk)))
      by_rest [] is = elim (asks_at_end is end ends end (facts is end ends)) [ inl asks ↦ inl asks | inr nothing ↦ inr (ap len_of nothing ∙ sym (rw is refl)) ]
      by_rest (row ∷ rest) is = inr (ap len_of (found row rest is end) ∙ sym (rw is refl))

-- ---- a step over an honest controller that adds no store

pub follows_walks : (c new : CursorState) (s s' : Seen) (result : Result (Option Row) Ended)
    → IsHonest s → StepLeaves c new result → StepIsHonest c new s s' result
    → FollowsWalks c new s s' result
follows_walks c new s s' result honest leaves step = record {
  follows = λ same start walk end k.
      subst (λ (x : Store). IsWalk (rows_of c.shelf x) start walk → EndsBy (rows_of c.shelf x) start walk end → StandsAt (rows_of c.shelf x) start walk k c
      → WalkStep (rows_of c.shelf x) start walk end k c new result) (step.stays.store.stays same)
      (λ w ends stands. walk_law c new s' start walk k (store_shelf c.shelf s'.store step.stays.honest.store) w stands s end ends result leaves step.answers);
}

pub asks_along : (c : CursorState) (s : Seen) → IsHonest s → AsksAlong c s
asks_along c s honest start walk end k w ends stands = asks_next c c s start walk k (store_shelf c.shelf s.store honest.store) w stands end ends

-- a new cursor is at the start of each walk
pub stands_at_start : (rows : List Row) (start : Place) (walk : List Row) (c : CursorState)
    → c.place ≡ start → c.ids ≡ set.empty → StandsAt rows start walk 0 c
stands_at_start rows start walk c place ids = record {
  within = omega arith;
  place = inl place;
  ids = λ n. ap (λ (s : set.FinSet nat_cmp). set.contains s n) ids ∙ contains-empty nat_cmp n;
}

-- a whole step, from what holds over any controller and over an honest one
pub whole_step : (old new : CursorState) (s s' : Seen) (result : Result (Option Row) Ended)
    → KeepsSettings old new → StepLeaves old new result
    → AreWithin old.tries (largest_len old.shelf) old.part new.part s s' → AsksAtMost old.part s s'
    → FirstAsks old s s' → StepSays old.place result s' → (AsksNothing old → s' ≡ s)
    → AsksNothing old ⊎ (set.len old.ids < 65536)
    → (IsHonest s → StepIsHonest old new s s' result) → IsStep old new s s' result
whole_step old new s s' result same leaves calls asked first says no_call room honest = record {
  same = same;
  leaves = leaves;
  calls = calls;
  asked = asked;
  first = first;
  says = says;
  no_call = no_call;
  room = room;
  honest = honest;
  asks = λ h. asks_along old s h;
  walks = λ h. follows_walks old new s s' result h leaves (honest h);
}

-- the result in other words
pub step_is : (old new : CursorState) (s s' : Seen) (handed result : Result (Option Row) Ended)
    → IsStep old new s s' handed → handed ≡ result → IsStep old new s s' result
step_is old new s s' handed result step is = subst (λ (r : Result (Option Row) Ended). IsStep old new s s' r) is step

-- at the end there are no more records
pub none_at_end : (old new : CursorState) (s s' : Seen) (result : Result (Option Row) Ended)
    → IsStep old new s s' result → old.place ≡ End → result ≡ Ok None
none_at_end old new s s' result step ends = let leaves = step.leaves in grind (arith, leaves, ends)

-- what an honest controller answers
pub answers_step : (old new : CursorState) (s s' : Seen) (result : Result (Option Row) Ended)
    → IsStep old new s s' result → IsHonest s
    → StaysHonest s s' × StepAnswers old s s' result
answers_step old new s s' result step h = ((step.honest h).stays, (step.honest h).answers)

-- two facts, the second by the first
pub both : {A B : Type 0} → A → (A → B) → A × B
both a b = (a, b a)
