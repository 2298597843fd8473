-- The rest of a walk, and steps along one.
use Rattle.std.proofs.Common.{◌≡◌, ◌≢◌, ℕ, suc, add-one, ◌+◌, ◌≤◌, Option, None, Some, Result, Ok, Err, List, [], ◌∷◌, ◌++◌, take, drop, refl, sym, ap, subst, ◌∙◌, arith, drop-drop}
use Rattle.ipmi_bus.specs.Prelude.{Shelf, Place, Id, Ended, Cycle, Missing, Row, IsShelf, first_row, rows_of, IsWalk, WalkEnd, Done, EndsBy, place_after, Seen, IsHonest, CursorState, StandsAt, WalkStep, Stepped, AreSteps, cursor_after, seen_after, with_handed, handed_out, Refused, GaveUp}
use Rattle.ipmi_bus.proofs.WalkLemmas.{walk_tail, row_at-id}

-- ---- the rest of a walk

pub rest_walk : (shelf : Shelf) (rows : List Row) (start : Place) (before : List Row) (row : Row)
    (after : List Row) → IsShelf shelf rows → IsWalk rows start (before ++ row ∷ after)
    → EndsBy rows start (before ++ row ∷ after) Done
    → row.id ≢ 0 → IsWalk rows (Id row.id) (row ∷ after)
    × EndsBy rows (Id row.id) (row ∷ after) Done
rest_walk shelf rows start [] row after ok w ends ne = (record { of_shelf = w.of_shelf; distinct = w.distinct; first = row_at-id rows row.id ne ∙ w.of_shelf.0; links = w.links }, ends)
rest_walk shelf rows start (d ∷ []) row after ok w ends ne = rest_walk shelf rows (place_after d.next) [] row after ok (walk_tail shelf rows start d (row ∷ after) ok w) ends ne
rest_walk shelf rows start (d ∷ (e ∷ before)) row after ok w ends ne =
    rest_walk shelf rows (place_after d.next) (e ∷ before) row after ok
    (walk_tail shelf rows start d ((e ∷ before) ++ row ∷ after) ok w) ends ne

-- ---- steps

-- if the store is unchanged over all steps, it is unchanged over the first
grows : (c : CursorState) (s : Seen) (steps : List Stepped) → IsHonest s → AreSteps c s steps
    → s.stores_added ≤ (seen_after s steps).stores_added
grows c s [] honest steps = omega arith
grows c s (step ∷ more) honest steps =
    let between = steps.0 in
    let stays = (steps.1.honest between.honest).stays in
    omega (arith, between.store.grows, stays.store.grows, grows step.cursor step.seen more stays.honest steps.2)

-- the next row, followed by the first rows after it
cons-take-drop : (walk : List Row) (k m : ℕ) (row : Row) → first_row (drop k walk) ≡ Some row
    → row ∷ take m (drop (k + 1) walk) ≡ take (m + 1) (drop k walk)
cons-take-drop walk k m row next =
    let rest = split (drop k walk) next in
    rw (sym (drop-drop 1 k walk)) (sym (rw (add-one m) (ap (take (suc m)) rest)))
  where
    split : (l : List Row) → first_row l ≡ Some row → l ≡ row ∷ drop 1 l
    split [] e = cc e
    split (r ∷ l) e = let same : r ≡ row = cc e in rw same refl

-- starting with the k-th row
record HandsOutFrom (rows : List Row) (start : Place) (walk : List Row) (k : ℕ) (c : CursorState)
    (handed : List Row) : Type 0 where
  count : ℕ
  handed_are : handed ≡ take count (drop k walk)
  stands : StandsAt rows start walk (k + count) c

module _ (rows : List Row) (start : Place) (walk : List Row) (end : WalkEnd)
    (w : IsWalk rows start walk) (ends : EndsBy rows start walk end) where
  one_more : (k : ℕ) (c c' last : CursorState) (result : Result (Option Row) Ended)
      (handed : List Row) → WalkStep rows start walk end k c c' result
      → ((j : ℕ) → StandsAt rows start walk j c' → HandsOutFrom rows start walk j last handed)
      → HandsOutFrom rows start walk k last (with_handed result handed)
  one_more k c c' last (Ok (Some row)) handed step go =
      let more = go (k + 1) step.1 in record {
        count = more.count + 1;
        handed_are = rw more.handed_are (cons-take-drop walk k more.count row step.0);
        stands = subst (λ (n : ℕ). StandsAt rows start walk n last) {x = k + 1 + more.count} (omega arith) more.stands;
      }
  one_more k c c' last (Ok None) handed step go = go k step.2
  one_more k c c' last (Err (Cycle n)) handed step go = go k step.2
  one_more k c c' last (Err (Missing n)) handed step go = go k step.2
  one_more k c c' last (Err (GaveUp n)) handed step go = go k step.0
  one_more k c c' last (Err (Refused n code)) handed step go = go k step.0
  one_more k c c' last _ handed step go = absurd step

  steps_from : (k : ℕ) (c : CursorState) (s : Seen) (steps : List Stepped) → IsHonest s
      → rows_of c.shelf s.store ≡ rows → StandsAt rows start walk k c → AreSteps c s steps
      → (seen_after s steps).stores_added ≡ s.stores_added
      → HandsOutFrom rows start walk k (cursor_after c steps) (handed_out steps)
  steps_from k c s [] honest is stands steps same = record { count = 0; handed_are = refl; stands = subst (λ (n : ℕ). StandsAt rows start walk n c) {x = k} (omega arith) stands }
  steps_from k c s (step ∷ more) honest is stands steps same =
      let between = steps.0 in
      let made = steps.1 in
      let stays = (made.honest between.honest).stays in
      let begun = between.store.grows in
      let low = stays.store.grows in
      let high = grows step.cursor step.seen more stays.honest steps.2 in
      let before : step.before.stores_added ≡ s.stores_added = omega (arith, begun, low, high) in
      let first : step.seen.stores_added ≡ step.before.stores_added = omega (arith, begun, low, high) in
      let later : (seen_after step.seen more).stores_added ≡ step.seen.stores_added = omega (arith, begun, low, high) in
      let was : rows_of c.shelf step.before.store ≡ rows = rw (between.store.stays before) is in
      let is' : rows_of step.cursor.shelf step.seen.store ≡ rows =
      ap (λ (x : Shelf). rows_of x step.seen.store) made.same.shelf ∙ rw (stays.store.stays first) was in
      let along : WalkStep rows start walk end k c step.cursor step.result =
      subst (λ (l : List Row). IsWalk l start walk → EndsBy l start walk end → StandsAt l start walk k c → WalkStep l start walk end k c step.cursor step.result) was
      (λ w ends stands. (made.walks between.honest).follows first start walk end k w ends stands) w ends stands in
      one_more k c step.cursor (cursor_after step.cursor more) step.result (handed_out more) along (λ j at. steps_from j step.cursor step.seen more stays.honest is' at steps.2 later)

pub steps_follow : (c : CursorState) (s : Seen) (steps : List Stepped) (start : Place)
    (walk : List Row) (end : WalkEnd) → IsHonest s → IsWalk (rows_of c.shelf s.store) start walk
    → EndsBy (rows_of c.shelf s.store) start walk end
    → StandsAt (rows_of c.shelf s.store) start walk 0 c → AreSteps c s steps
    → (seen_after s steps).stores_added ≡ s.stores_added
    → (count : ℕ) × (handed_out steps ≡ take count walk)
    × StandsAt (rows_of c.shelf s.store) start walk count (cursor_after c steps)
steps_follow c s steps start walk end honest w ends stands made same =
    let all = steps_from (rows_of c.shelf s.store) start walk end w ends 0 c s steps honest refl stands made same in (
      all.count,
      all.handed_are,
      subst (λ (n : ℕ). StandsAt (rows_of c.shelf s.store) start walk n (cursor_after c steps)) {x = 0 + all.count} (omega arith) all.stands,
    )
