-- Steps along a walk that grows.
use Rattle.std.proofs.Common.{◌≡◌, ◌≢◌, ℕ, zero, suc, ◌+◌, ◌<◌, ◌≤◌, Option, None, Some, Result, Ok, Err, List, [], ◌∷◌, ◌++◌, length, take, drop, refl, sym, ap, subst, ◌∙◌, inl, inr, ◌⊎◌, arith, append_assoc, length-append, append-nil, take_all, take-add}
use Rattle.ipmi_bus.specs.Prelude.{Shelf, Place, First, Id, End, Ended, Cycle, Missing, Refused, GaveUp, Row, first_row, Store, rows_of, store_shelf, Links, IsWalk, Done, EndsBy, last_next, place_after, place_after_rows, has_id, Seen, IsHonest, CursorState, StandsAt, WalkStep, Stepped, AreSteps, cursor_after, seen_after, with_handed, handed_out, IsStep, StepLeaves, AtSomeEnd, BeginsWith, Grows, OnlyGrew, stays_trans, StaysHonest, GrowsAlong, IsLog, WasHeld, WasLog, FollowsOrStops, AllFollowOrStop, FollowsGrowth}
use Rattle.ipmi_bus.specs.Seen.{stays_refl}
use Rattle.ipmi_bus.specs.Store.{IsStore}
use Rattle.ipmi_bus.proofs.HeldLemmas.{begins_length, begins_refl, begins_trans, grew_first, grew_second, grows_over, held_at_first, held_at_last, held_in_first, held_in_second}
use Rattle.ipmi_bus.proofs.WalkLemmas.{walk_law, all_at_end, none_at_end}

-- ---- lists that begin with the same records

-- of the same length
begins_back : (a b : List Row) → BeginsWith a b → length b ≤ length a → BeginsWith b a
begins_back [] [] p le = tt
begins_back [] (y ∷ b) p le = absurd (omega (arith, le))
begins_back (x ∷ a) [] p le = tt
begins_back (x ∷ a) (y ∷ b) p le = (record { id = sym p.0.id; bytes = sym p.0.bytes }, begins_back a b p.1 (omega (arith, le)))

-- and with one more
begins_more : (a b : List Row) (row : Row) → BeginsWith a b → first_row (drop (length a) b) ≡ Some row
    → BeginsWith (a ++ row ∷ []) b
begins_more [] [] row p next = cc next
begins_more [] (y ∷ b) row p next = let same : y ≡ row = cc next in (record { id = ap (λ (r : Row). r.id) same; bytes = ap (λ (r : Row). r.bytes) same }, tt)
begins_more (x ∷ a) [] row p next = absurd p
begins_more (x ∷ a) (y ∷ b) row p next = (p.0, begins_more a b row p.1 next)

-- ---- a walk that has grown

same_row : (x y : Row) → y.id ≡ x.id → y.next ≡ x.next → y.bytes ≡ x.bytes → y ≡ x
same_row x y id next bytes =
    let e : record { id = y.id; next = y.next; bytes = y.bytes } ≡ record { id = x.id; next = x.next; bytes = x.bytes } = rw (id, next, bytes) refl in e

-- the first rows are the same, unless the last of them was the last one of the walk
same_rows : (start : Place) (walk now : List Row) (k : ℕ) → Links walk → Links now
    → BeginsWith walk now → k ≤ length walk → (0 < length walk → last_next 0 walk ≡ 65535)
    → place_after_rows start (take k walk) ≢ End → take k now ≡ take k walk
same_rows start walk now zero links later p le done open_ = refl
same_rows start [] now (suc k) links later p le done open_ = absurd (omega (arith, le))
same_rows start (x ∷ walk) [] (suc k) links later p le done open_ = absurd p
same_rows start (x ∷ []) (y ∷ now) (suc zero) links later p le done open_ =
    absurd (open_ (ap place_after (done (omega arith))))
same_rows start (x ∷ []) (y ∷ now) (suc (suc k)) links later p le done open_ = absurd (omega (arith, le))
same_rows start (x ∷ (x' ∷ walk)) (y ∷ []) (suc k) links later p le done open_ = absurd p.1
same_rows start (x ∷ (x' ∷ walk)) (y ∷ (y' ∷ now)) (suc k) links later p le done open_ =
    let next : y.next ≡ x.next = later.0 ∙ p.1.0.id ∙ sym links.0 in
    let rest = same_rows (place_after x.next) (x' ∷ walk) (y' ∷ now) k links.2 later.2 p.1 (omega (arith, le)) (λ some. done (omega arith)) open_ in
    ap (λ (r : Row). r ∷ take k (y' ∷ now)) (same_row x y p.0.id next p.0.bytes) ∙ ap (λ (l : List Row). x ∷ l) rest

last_of : (rows : List Row) (start : Place) (walk : List Row) → EndsBy rows start walk Done
    → 0 < length walk → last_next 0 walk ≡ 65535
last_of rows start [] ends some = absurd (omega (arith, some))
last_of rows start (row ∷ walk) ends some = ends

-- after rows that are the same, a cursor is at the same place
stands_on : (rows later : List Row) (start : Place) (walk now : List Row) (k : ℕ) (c : CursorState)
    → take k now ≡ take k walk → length walk ≤ length now → c.place ≢ End
    → StandsAt rows start walk k c → StandsAt later start now k c
stands_on rows later start walk now k c same longer open_ stands = record {
  within = omega (arith, stands.within, longer);
  place = elim stands.place [ inl p ↦ inl (p ∙ ap (place_after_rows start) (sym same)) | inr e ↦ absurd (open_ e.0) ];
  ids = λ n. stands.ids n ∙ ap (λ (l : List Row). has_id l n) (sym same);
}

-- a cursor that is not at the end
same_first : (rows : List Row) (start : Place) (walk now : List Row) (later : List Row) (k : ℕ)
    (c : CursorState) → IsWalk rows start walk → EndsBy rows start walk Done
    → IsWalk later start now → BeginsWith walk now → StandsAt rows start walk k c → c.place ≢ End
    → take k now ≡ take k walk
same_first rows start walk now later k c w ends w' grown stands open_ =
    same_rows start walk now k w.links w'.links grown stands.within (last_of rows start walk ends) (λ e. open_ (at e))
  where
    at : place_after_rows start (take k walk) ≡ End → c.place ≡ End
    at e = elim stands.place [ inl p ↦ p ∙ e | inr h ↦ h.0 ]

is_end : (place : Place) → (place ≡ End) ⊎ (place ≢ End)
is_end First = inr (λ e. cc e)
is_end (Id n) = inr (λ e. cc e)
is_end End = inl refl

-- the first rows, and the next one
take-next : (l : List Row) (k : ℕ) (row : Row) → first_row (drop k l) ≡ Some row
    → take k l ++ row ∷ [] ≡ take (k + 1) l
take-next l k row next = let split = splits (drop k l) next in sym (take-add k 1 l ∙ rw split refl)
  where
    splits : (m : List Row) → first_row m ≡ Some row → m ≡ row ∷ drop 1 m
    splits [] e = cc e
    splits (r ∷ m) e = let same : r ≡ row = cc e in rw same refl

begins_take : (k : ℕ) (a : List Row) → BeginsWith (take k a) a
begins_take zero a = tt
begins_take (suc k) [] = tt
begins_take (suc k) (x ∷ a) = (record { id = refl; bytes = refl }, begins_take k a)

-- ---- steps

-- After some steps. At the end of the walk, the rows were the whole walk at some moment.
record Grown (Past : List Row → Type 0) (shelf : Shelf) (start : Place) (first : List Row)
    (seen : Seen) (c : CursorState) (handed : List Row) : Type 0 where
  same : c.shelf ≡ shelf
  now : List Row
  log : IsLog shelf start seen.store now
  grown : BeginsWith first now
  in_order : BeginsWith handed now
  stands : ((c.place ≡ End) × BeginsWith first handed × Past handed)
      ⊎ ((c.place ≢ End) × (handed ≡ take (length handed) now) × StandsAt (rows_of shelf seen.store) start now (length handed) c)

with_past : {P Q : List Row → Type 0} (shelf : Shelf) (start : Place) (first : List Row)
    (seen : Seen) (c : CursorState) (handed : List Row) → (P handed → Q handed)
    → Grown P shelf start first seen c handed → Grown Q shelf start first seen c handed
with_past shelf start first seen c handed more g = record {
  same = g.same;
  now = g.now;
  log = g.log;
  grown = g.grown;
  in_order = g.in_order;
  stands = elim g.stands [ inl e ↦ inl (e.0, e.1, more e.2) | inr o ↦ inr o ];
}

module _ (shelf : Shelf) (start : Place) (first : List Row) where
  on_shelf : (c : CursorState) (seen : Seen) (now : List Row) (k : ℕ) → c.shelf ≡ shelf
      → StandsAt (rows_of shelf seen.store) start now k c
      → StandsAt (rows_of c.shelf seen.store) start now k c
  on_shelf c seen now k same stands = subst (λ (x : Shelf). StandsAt (rows_of x seen.store) start now k c) (sym same) stands

  -- a cursor at the end has returned the whole walk
  grown_at : (c : CursorState) (seen : Seen) (now handed : List Row) → c.shelf ≡ shelf
      → IsHonest seen → IsLog shelf start seen.store now → BeginsWith first now
      → handed ≡ take (length handed) now
      → StandsAt (rows_of shelf seen.store) start now (length handed) c
      → Grown (IsLog shelf start seen.store) shelf start first seen c handed
  grown_at c seen now handed same honest log grown are stands = record {
    same = same;
    now = now;
    log = log;
    grown = grown;
    in_order = subst (λ (l : List Row). BeginsWith l now) (sym are) (begins_take (length handed) now);
    stands = elim (is_end c.place) [
      | inl at_end ↦
          let all = all_at_end c c seen start now (length handed) (store_shelf c.shelf seen.store honest.store) (rw same log.walks) (on_shelf c seen now (length handed) same stands) at_end in
          let whole : now ≡ handed = sym (are ∙ take_all (length handed) now (omega (arith, all))) in
          inl (at_end, subst (BeginsWith first) whole grown, subst (IsLog shelf start seen.store) whole log)
      | inr open_ ↦ inr (open_, are, stands)
    ];
  }

  -- what a step does on the walk as it is when the step ends
  one_step : (c new : CursorState) (seen : Seen) (result : Result (Option Row) Ended)
      (now handed : List Row) → new.shelf ≡ shelf → IsHonest seen
      → IsLog shelf start seen.store now → BeginsWith first now
      → handed ≡ take (length handed) now
      → WalkStep (rows_of shelf seen.store) start now Done (length handed) c new result
      → Grown (IsLog shelf start seen.store) shelf start first seen new (handed ++ with_handed result []) × FollowsOrStops result
  one_step c new seen (Ok (Some row)) now handed same honest log grown are step =
      let len : length (handed ++ row ∷ []) ≡ length handed + 1 = length-append handed (row ∷ []) in
      let more : handed ++ row ∷ [] ≡ take (length (handed ++ row ∷ [])) now =
      ap (λ (l : List Row). l ++ row ∷ []) are ∙ take-next now (length handed) row step.0 ∙ ap (λ (n : ℕ). take n now) (sym len) in (
        grown_at new seen now (handed ++ row ∷ []) same honest log grown more (subst (λ (n : ℕ). StandsAt (rows_of shelf seen.store) start now n new) (sym len) step.1),
        tt,
      )
  one_step c new seen (Ok None) now handed same honest log grown are step = (rw (append-nil handed) (grown_at new seen now handed same honest log grown are step.2), tt)
  one_step c new seen (Err (Cycle n)) now handed same honest log grown are step = let never = step.1 in cc never
  one_step c new seen (Err (Missing n)) now handed same honest log grown are step = let never = step.1 in cc never
  one_step c new seen (Err (GaveUp n)) now handed same honest log grown are step = (rw (append-nil handed) (grown_at new seen now handed same honest log grown are step.0), tt)
  one_step c new seen (Err (Refused n code)) now handed same honest log grown are step = (rw (append-nil handed) (grown_at new seen now handed same honest log grown are step.0), tt)
  one_step c new seen _ now handed same honest log grown are step = absurd step

  -- at the end a step returns no record
  ended : (c new : CursorState) (result : Result (Option Row) Ended) → result ≡ Ok None
      → c.place ≡ End → StepLeaves c new result
      → (new.place ≡ End) × (with_handed result [] ≡ []) × FollowsOrStops result
  ended c new (Ok None) is at_end leaves = (leaves.1.place, refl, tt)
  ended c new (Ok (Some row)) is at_end leaves = cc is
  ended c new (Err e) is at_end leaves = cc is

  -- one more step, before whose end the walk may have grown
  grown_step : {P : List Row → Type 0} (c new : CursorState) (s before s' : Seen)
      (result : Result (Option Row) Ended)
      (handed : List Row) → Grown P shelf start first s c handed → IsHonest before
      → IsStep c new before s' result
      → Grows start (rows_of shelf s.store) (rows_of shelf s'.store)
      → Grown (λ (h : List Row). P h ⊎ IsLog shelf start s'.store h) shelf start first s' new (handed ++ with_handed result []) × FollowsOrStops result
  grown_step {P} c new s before s' result handed was honest step grows =
      let honest' : IsHonest s' = (step.honest honest).stays.honest in
      let later = grows was.now was.log.walks was.log.ends in
      let log : IsLog shelf start s'.store later.0 = record { walks = later.2; ends = later.3 } in
      let grown = begins_trans first was.now later.0 was.grown later.1 in
      let in_order = begins_trans handed was.now later.0 was.in_order later.1 in
      let same' : new.shelf ≡ shelf = step.same.shelf ∙ was.same in
      elim was.stands [
        | inl done ↦
            let e = ended c new result (none_at_end c new before s' result step done.0) done.0 step.leaves in (
              rw (e.1, append-nil handed) (record { same = same'; now = later.0; log = log; grown = grown; in_order = in_order; stands = inl (e.0, done.1, inl done.2) }),
              e.2,
            )
        | inr at ↦
            let same = same_first (rows_of shelf s.store) start was.now later.0 (rows_of shelf s'.store) (length handed) c was.log.walks was.log.ends later.2 later.1 at.2 at.0 in
            let stands = stands_on (rows_of shelf s.store) (rows_of shelf s'.store) start was.now later.0 (length handed) c same (begins_length was.now later.0 later.1) at.0 at.2 in
            let law = walk_law c new s' start later.0 (length handed) (store_shelf c.shelf s'.store honest'.store) (rw was.same later.2) (on_shelf c s' later.0 (length handed) was.same stands) before Done (rw was.same later.3) result step.leaves (step.honest honest).answers in
            let one = one_step c new s' result later.0 handed same' honest' log grown (at.1 ∙ sym same)
            (subst (λ (x : Shelf). WalkStep (rows_of x s'.store) start later.0 Done (length handed) c new result) was.same law) in
            (with_past shelf start first s' new (handed ++ with_handed result []) (λ h. inr h) one.0, one.1)
      ]

  grown_steps : (c : CursorState) (s : Seen) (steps : List Stepped) (handed : List Row)
      (P : List Row → Type 0)
      → Grown P shelf start first s c handed → IsHonest s → AreSteps c s steps
      → GrowsAlong shelf start s.store steps
      → Grown (λ (h : List Row). P h ⊎ AtSomeEnd (λ (store : Store). IsLog shelf start store h) steps) shelf start first (seen_after s steps) (cursor_after c steps) (handed ++ handed_out steps)
      × AllFollowOrStop steps
  grown_steps c s [] handed P was honest steps grows = (rw (append-nil handed) (with_past shelf start first s c handed (λ h. inl h) was), tt)
  grown_steps c s (step ∷ more) handed P was honest steps grows =
      let made = steps.1 in
      let one = grown_step c step.cursor s step.before step.seen step.result handed was steps.0.honest made grows.0 in
      let all = grown_steps step.cursor step.seen more (handed ++ with_handed step.result []) (λ h. P h ⊎ IsLog shelf start step.seen.store h) one.0 (made.honest steps.0.honest).stays.honest steps.2 grows.1 in (
        rw (with_more step.result handed (handed_out more)) (with_past shelf start first (seen_after step.seen more) (cursor_after step.cursor more) ((handed ++ with_handed step.result []) ++ handed_out more) shift all.0),
        (one.1, all.1),
      )
    where
      with_more : (result : Result (Option Row) Ended) (handed later : List Row)
          → handed ++ with_handed result later ≡ (handed ++ with_handed result []) ++ later
      with_more (Ok (Some row)) handed later = sym (append_assoc handed (row ∷ []) later)
      with_more (Ok None) handed later = rw (append-nil handed) refl
      with_more (Err e) handed later = rw (append-nil handed) refl

      shift : {A B C : Type 0} → (A ⊎ B) ⊎ C → A ⊎ (B ⊎ C)
      shift (inl (inl a)) = inl a
      shift (inl (inr b)) = inr (inl b)
      shift (inr c) = inr (inr c)

pub steps_follow_growth : (c : CursorState) (s : Seen) (steps : List Stepped) (start : Place)
    (walk : List Row) → IsHonest s → IsLog c.shelf start s.store walk
    → StandsAt (rows_of c.shelf s.store) start walk 0 c → AreSteps c s steps
    → GrowsAlong c.shelf start s.store steps
    → FollowsGrowth start walk c s.store steps (cursor_after c steps) (seen_after s steps)
    (handed_out steps)
    × AllFollowOrStop steps
steps_follow_growth c s steps start walk honest log stands made grows =
    let begun = grown_at c.shelf start walk c s walk [] refl honest log (begins_refl walk) refl stands in
    let all = grown_steps c.shelf start walk c s steps [] (IsLog c.shelf start s.store) begun honest made grows in (
      record {
        now = all.0.now;
        log = all.0.log;
        grown = all.0.grown;
        in_order = all.0.in_order;
        before_end = λ open_. elim all.0.stands [ inl done ↦ absurd (open_ done.0) | inr at ↦ (at.1, at.2) ];
        at_end = λ at_end. elim all.0.stands [ inl done ↦ (done.1, done.2) | inr at ↦ absurd (at.0 at_end) ];
      },
      all.1,
    )

-- ---- over all stores that were held

pub steps_stay : (c : CursorState) (s : Seen) (steps : List Stepped) → IsHonest s → AreSteps c s steps
    → StaysHonest s (seen_after s steps)
steps_stay c s [] honest steps = stays_refl s honest
steps_stay c s (step ∷ more) honest steps =
    let stays = (steps.1.honest steps.0.honest).stays in
    stays_trans s step.seen (seen_after step.seen more) (stays_trans s step.before step.seen steps.0 stays)
    (steps_stay step.cursor step.seen more stays.honest steps.2)

pub grows_along : (shelf : Shelf) (start : Place) (c : CursorState) (s : Seen) (steps : List Stepped)
    → IsHonest s → AreSteps c s steps → OnlyGrew shelf start s (seen_after s steps)
    → GrowsAlong shelf start s.store steps
grows_along shelf start c s [] honest steps grew = tt
grows_along shelf start c s (step ∷ more) honest steps grew =
    let stays = (steps.1.honest steps.0.honest).stays in
    let one : StaysHonest s step.seen = stays_trans s step.before step.seen steps.0 stays in
    let later = steps_stay step.cursor step.seen more stays.honest steps.2 in (
      grows_over shelf start s step.seen one.store (grew_first shelf start s step.seen (seen_after step.seen more) one.store later.store grew),
      grows_along shelf start step.cursor step.seen more stays.honest steps.2
          (grew_second shelf start s step.seen (seen_after step.seen more) one.store later.store grew),
    )

pub steps_follow_log : (c : CursorState) (s : Seen) (steps : List Stepped) (start : Place)
    (walk : List Row) → IsHonest s → IsLog c.shelf start s.store walk
    → StandsAt (rows_of c.shelf s.store) start walk 0 c → AreSteps c s steps
    → OnlyGrew c.shelf start s (seen_after s steps)
    → FollowsGrowth start walk c s.store steps (cursor_after c steps) (seen_after s steps)
    (handed_out steps)
    × AllFollowOrStop steps
steps_follow_log c s steps start walk honest log stands made grew =
    steps_follow_growth c s steps start walk honest log stands made (grows_along c.shelf start c s steps honest made grew)

-- ---- the log as it was at one moment

-- the store at the end of some step was held, and is well formed
record SomeEnd (Holds : Store → Type 0) (s last : Seen) : Type 0 where
  store : Store
  holds : Holds store
  is_store : IsStore store
  held : WasHeld s last store

some_end : (Holds : Store → Type 0) (c : CursorState) (s : Seen) (steps : List Stepped) → IsHonest s → AreSteps c s steps
    → AtSomeEnd Holds steps → SomeEnd Holds s (seen_after s steps)
some_end Holds c s [] honest are at = absurd at
some_end Holds c s (step ∷ steps) honest are at =
    let made = (are.1.honest are.0.honest).stays in
    let one = stays_trans s step.before step.seen are.0 made in
    let later = steps_stay step.cursor step.seen steps made.honest are.2 in
    elim at [
      | inl here ↦ record { store = step.seen.store; holds = here; is_store = made.honest.store; held = held_in_first s step.seen (seen_after step.seen steps) one.store later.store step.seen.store (held_at_last s step.seen) }
      | inr after ↦
          let rest = some_end Holds step.cursor step.seen steps made.honest are.2 after in
          record { store = rest.store; holds = rest.holds; is_store = rest.is_store; held = held_in_second s step.seen (seen_after step.seen steps) one.store later.store rest.store rest.held }
    ]

-- its first rows were returned; at the end, all
pub record Moment (shelf : Shelf) (start : Place) (first : List Row) (s last : Seen) (now : CursorState) (handed : List Row) : Type 0 where
  pub rows : List Row
  pub was : WasLog shelf start s last first rows
  pub begins : handed ≡ take (length handed) rows
  pub whole : now.place ≡ End → handed ≡ rows
  pub there : now.place ≢ End → now.place ≡ place_after_rows start handed
  pub ends : (shelf_rows : List Row) × EndsBy shelf_rows start rows Done

module _ (begun : CursorState) (s last : Seen) (start : Place) (first : List Row) (honest : IsHonest s)
    (log : IsLog begun.shelf start s.store first)
    (stands : StandsAt (rows_of begun.shelf s.store) start first 0 begun)
    (steps : List Stepped) (made : AreSteps begun s steps) (after : StaysHonest (seen_after s steps) last)
    (grew : OnlyGrew begun.shelf start s last) where
  since : StaysHonest s (seen_after s steps)
  since = steps_stay begun s steps honest made

  pub growth : FollowsGrowth start first begun s.store steps (cursor_after begun steps) (seen_after s steps) (handed_out steps)
      × AllFollowOrStop steps
  growth = steps_follow_growth begun s steps start first honest log stands made
      (grows_along begun.shelf start begun s steps honest made (grew_first begun.shelf start s (seen_after s steps) last since.store after.store grew))

  abbrev WasMeanwhile : List Row → Type 0
  WasMeanwhile rows = WasLog begun.shelf start s last first rows

  was_at : (rows : List Row) → BeginsWith first rows → (store : Store) → IsStore store → IsLog begun.shelf start store rows
      → WasHeld s (seen_after s steps) store → WasMeanwhile rows
  was_at rows grown store is_store log held =
      record { store = store; held = held_in_first s (seen_after s steps) last since.store after.store store held; is_store = is_store; is_log = log; grown = grown }

  at_end : (cursor_after begun steps).place ≡ End → WasMeanwhile (handed_out steps)
  at_end place =
      let whole = growth.0.at_end place in
      elim whole.1 [
        | inl at_first ↦ record { store = s.store; held = held_in_first s (seen_after s steps) last since.store after.store s.store (held_at_first s (seen_after s steps) since.store); is_store = honest.store; is_log = at_first; grown = whole.0 }
        | inr later ↦ let at = some_end (λ (store : Store). IsLog begun.shelf start store (handed_out steps)) begun s steps honest made later in was_at (handed_out steps) whole.0 at.store at.is_store at.holds at.held
      ]

  pub moment : Moment begun.shelf start first s last (cursor_after begun steps) (handed_out steps)
  moment = elim (is_end (cursor_after begun steps).place) [
    | inl place ↦
        let was = at_end place in record {
          rows = handed_out steps;
          was = was;
          begins = sym (take_all (length (handed_out steps)) (handed_out steps) (omega arith));
          whole = λ _. refl;
          there = λ open_. absurd (open_ place);
          ends = (rows_of begun.shelf was.store, was.is_log.ends);
        }
    | inr open_ ↦
        let g = growth.0 in
        let before = g.before_end open_ in record {
          rows = g.now;
          was = was_at g.now g.grown (seen_after s steps).store since.honest.store g.log (held_at_last s (seen_after s steps));
          begins = before.0;
          whole = λ place. absurd (open_ place);
          there = λ _. elim before.1.place [ inl p ↦ p ∙ ap (place_after_rows start) (sym before.0) | inr e ↦ absurd (open_ e.0) ];
          ends = (rows_of begun.shelf (seen_after s steps).store, g.log.ends);
        }
  ]
