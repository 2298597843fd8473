-- Exactly one walk from a place has an end.
use Rattle.std.proofs.Common.{◌≡◌, ◌≢◌, ℕ, zero, suc, ◌+◌, ◌≤◌, Bool, true, false, cond, nat_eq, ◌||◌, Option, None, Some, List, [], ◌∷◌, ◌++◌, refl, sym, ap, subst, ◌∙◌, append_assoc, rules, arith, nat_cmp, eqb-true, append-nil}
use Rattle.std.specs.FinSet as set
use Rattle.std.specs.FinSet.{contains-insert, contains-empty}
use Rattle.std.specs.Cmp.{nat_cmp_total, unsigned_tied}
use Rattle.std.proofs.Math.Bool.{or-false}
use Rattle.std.proofs.lemmas.Bool.Decides.{nat_tests}
use Rattle.ipmi_bus.specs.Prelude.{Shelf, Place, First, Id, End, Row, IsShelf, look, row_with_id, first_row, row_at, Links, AllOf, IsWalk, place_after, place_after_rows, has_id, WalkEnd, Done, CycleAt, MissingAt, EndsBy, EndsAfter, EndsEmpty, last_next}
use Rattle.ipmi_bus.proofs.ShelfLemmas.{DistinctIds-snoc}
use Rattle.ipmi_bus.proofs.WalkLemmas.{row_at-next, has_id-next, look-asked_at, cycle_at-none, end_facts, place_after_rows-last, id-row_at, has_id-append}

-- the ids of a walk, as a set
abbrev ids_of : List Row → set.FinSet nat_cmp
ids_of [] = set.empty
ids_of (row ∷ rows) = set.insert (ids_of rows) row.id

contains-ids_of : (rows : List Row) (n : ℕ) → set.contains (ids_of rows) n ≡ has_id rows n
contains-ids_of [] n = contains-empty nat_cmp n
contains-ids_of (row ∷ rows) n = contains-insert nat_cmp_total (ids_of rows) row.id n ∙ rw (unsigned_tied n row.id, contains-ids_of rows n) refl

-- a walk that has an end has no row after it
no_more : (shelf : Shelf) (rows : List Row) (start : Place) (done : List Row) (end : WalkEnd)
    (row : Row) → IsShelf shelf rows → EndsBy rows start done end
    → row_at (place_after_rows start done) rows ≡ Some row → has_id done row.id ≡ false → ⊥
no_more shelf rows start done end row ok ends found fresh =
    let facts = end_facts rows start done (place_after_rows start done) (ids_of done) end ends refl (contains-ids_of done) in
    let none = cycle_at-none shelf rows (place_after_rows start done) (ids_of done) done row ok (contains-ids_of done) fresh found in
    let looks = look-asked_at (place_after_rows start done) rows row found in grind (arith, nat_tests)

-- two walks that have an end and begin with the same rows are equal
same_rest : (shelf : Shelf) (rows : List Row) (start : Place) (done a b : List Row) (e f : WalkEnd)
    → IsShelf shelf rows → IsWalk rows start (done ++ a) → EndsBy rows start (done ++ a) e
    → IsWalk rows start (done ++ b) → EndsBy rows start (done ++ b) f → a ≡ b
same_rest shelf rows start done [] [] e f ok w ends w' ends' = refl
same_rest shelf rows start done [] (s ∷ b) e f ok w ends w' ends' =
    absurd (no_more shelf rows start done e s ok (subst (λ (l : List Row). EndsBy rows start l e) (append-nil done) ends) (row_at-next shelf rows start done s b ok w') (has_id-next done s b w'.distinct))
same_rest shelf rows start done (r ∷ a) [] e f ok w ends w' ends' =
    absurd (no_more shelf rows start done f r ok (subst (λ (l : List Row). EndsBy rows start l f) (append-nil done) ends') (row_at-next shelf rows start done r a ok w) (has_id-next done r a w.distinct))
same_rest shelf rows start done (r ∷ a) (s ∷ b) e f ok w ends w' ends' =
    let same : r ≡ s = let h = sym (row_at-next shelf rows start done r a ok w) ∙ row_at-next shelf rows start done s b ok w' in cc h in
    let left : (done ++ r ∷ []) ++ a ≡ done ++ r ∷ a = append_assoc done (r ∷ []) a in
    let right : (done ++ r ∷ []) ++ b ≡ done ++ s ∷ b = append_assoc done (r ∷ []) b ∙ ap (λ (x : Row). done ++ x ∷ b) same in
    let rest = same_rest shelf rows start (done ++ r ∷ []) a b e f ok (subst (IsWalk rows start) (sym left) w) (subst (λ (l : List Row). EndsBy rows start l e) (sym left) ends)
    (subst (IsWalk rows start) (sym right) w') (subst (λ (l : List Row). EndsBy rows start l f) (sym right) ends') in
    ap (λ (x : Row). x ∷ a) same ∙ ap (λ (l : List Row). s ∷ l) rest

-- a walk has at most one end
same_empty : (rows : List Row) (start : Place) (e f : WalkEnd) → EndsEmpty rows start e
    → EndsEmpty rows start f → e ≡ f
same_empty rows start e f ends ends' = grind (arith, nat_tests)

same_after : (rows walk : List Row) (next : ℕ) (e f : WalkEnd) → EndsAfter rows walk next e
    → EndsAfter rows walk next f → e ≡ f
same_after rows walk next e f ends ends' = grind (arith, nat_tests)

same_end : (rows : List Row) (start : Place) (walk : List Row) (e f : WalkEnd)
    → EndsBy rows start walk e → EndsBy rows start walk f → e ≡ f
same_end rows start [] e f ends ends' = same_empty rows start e f ends ends'
same_end rows start (row ∷ walk) e f ends ends' = same_after rows (row ∷ walk) (last_next row.next walk) e f ends ends'

pub same_walk : (shelf : Shelf) (rows : List Row) (start : Place) (a b : List Row) (e f : WalkEnd)
    → IsShelf shelf rows → IsWalk rows start a → EndsBy rows start a e → IsWalk rows start b
    → EndsBy rows start b f → (a ≡ b) × (e ≡ f)
same_walk shelf rows start a b e f ok w ends w' ends' =
    let same = same_rest shelf rows start [] a b e f ok w ends w' ends' in
    (same, same_end rows start b e f (subst (λ (l : List Row). EndsBy rows start l e) same ends) ends')

-- ---- there is a walk that has an end

-- the number of rows of the shelf that are not among these
abbrev left_over : List Row → List Row → ℕ
left_over [] done = 0
left_over (row ∷ rows) done = cond (has_id done row.id) 0 1 + left_over rows done

one_or_less : (a b c : Bool) (m n : ℕ) → c ≡ (a || b) → m ≤ n → cond c 0 1 + m ≤ cond a 0 1 + n
one_or_less a b c m n e le = grind arith

left_over_le : (rows done : List Row) (row : Row)
    → left_over rows (done ++ row ∷ []) ≤ left_over rows done
left_over_le [] done row = omega arith
left_over_le (r ∷ rows) done row = one_or_less (has_id done r.id) (nat_eq r.id row.id) _ _ _ (has_id-append done row r.id) (left_over_le rows done row)

left_over_lt : (rows done : List Row) (row : Row) → row_with_id row.id rows ≡ Some row
    → has_id done row.id ≡ false → left_over rows (done ++ row ∷ []) + 1 ≤ left_over rows done
left_over_lt [] done row found fresh = cc found
left_over_lt (r ∷ rows) done row found fresh =
    by_id (λ h. left_over_lt rows done row h fresh) (nat_eq r.id row.id) refl found
  where
    by_id : (row_with_id row.id rows ≡ Some row
        → left_over rows (done ++ row ∷ []) + 1 ≤ left_over rows done) → (b : Bool)
        → nat_eq r.id row.id ≡ b → cond b (Some r) (row_with_id row.id rows) ≡ Some row
        → left_over (r ∷ rows) (done ++ row ∷ []) + 1 ≤ left_over (r ∷ rows) done
    by_id later true is h =
        let old : has_id done r.id ≡ false = ap (has_id done) (eqb-true r.id row.id is) ∙ fresh in
        let new : has_id (done ++ row ∷ []) r.id ≡ true = has_id-append done row r.id ∙ rw old is in
        let le = left_over_le rows done row in rw (new, old) (omega (arith, le))
    by_id later false is h =
        let lt = later h in
        let same : has_id (done ++ row ∷ []) r.id ≡ has_id done r.id = has_id-append done row r.id ∙ rw is (or-false (has_id done r.id)) in
        rw same (omega (arith, lt))

-- a row at a place is a row of the shelf
found_at : (shelf : Shelf) (place : Place) (rows : List Row) (row : Row) → IsShelf shelf rows
    → row_at place rows ≡ Some row → (look rows row.id ≡ Some row)
    × (row_with_id row.id rows ≡ Some row)
found_at shelf First rows row ok found = grind (arith, nat_tests)
found_at shelf (Id n) rows row ok found = let is = id-row_at shelf rows n row ok found in grind (arith, nat_tests)
found_at shelf End rows row ok found = cc found

AllOf-snoc : (rows done : List Row) (row : Row) → AllOf rows done → look rows row.id ≡ Some row
    → AllOf rows (done ++ row ∷ [])
AllOf-snoc rows [] row all here = (here, tt)
AllOf-snoc rows (d ∷ done) row all here = (all.0, AllOf-snoc rows done row all.1 here)

-- the place after a row leads to the row with the next id
linked : (shelf : Shelf) (next : ℕ) (rows : List Row) (row : Row) → IsShelf shelf rows
    → row_at (place_after next) rows ≡ Some row → (next ≡ row.id) × (row.id ≢ 0)
linked shelf next rows row ok found = grind (arith, nat_tests, id-row_at shelf rows next row ok)

Links-snoc : (shelf : Shelf) (rows : List Row) (d : Row) (done : List Row) (row : Row)
    → IsShelf shelf rows → Links (d ∷ done)
    → row_at (place_after_rows (place_after d.next) done) rows ≡ Some row
    → Links (d ∷ (done ++ row ∷ []))
Links-snoc shelf rows d [] row ok links found = let l = linked shelf d.next rows row ok found in (l.0, l.1, tt)
Links-snoc shelf rows d (x ∷ done) row ok links found = (links.0, links.1, Links-snoc shelf rows x done row ok links.2 found)

longer : (shelf : Shelf) (rows : List Row) (start : Place) (done : List Row) (row : Row)
    → IsShelf shelf rows → IsWalk rows start done
    → row_at (place_after_rows start done) rows ≡ Some row → has_id done row.id ≡ false
    → IsWalk rows start (done ++ row ∷ [])
longer shelf rows start [] row ok w found fresh = record { of_shelf = ((found_at shelf start rows row ok found).0, tt); distinct = (tt, tt); first = found; links = tt }
longer shelf rows start (d ∷ done) row ok w found fresh = record {
  of_shelf = AllOf-snoc rows (d ∷ done) row w.of_shelf (found_at shelf (place_after_rows (place_after d.next) done) rows row ok found).0;
  distinct = DistinctIds-snoc (d ∷ done) row w.distinct fresh;
  first = w.first;
  links = Links-snoc shelf rows d done row ok w.links found;
}

-- ---- if no row follows, the walk has an end

abbrev the_end : List Row → ℕ → WalkEnd
the_end walk next = cond (nat_eq next 65535) Done (cond (nat_eq next 0 || has_id walk next) (CycleAt next) (MissingAt next))

end_after : (rows : List Row) (walk : List Row) (next : ℕ)
    → (has_id walk next ≡ false → row_at (place_after next) rows ≡ None)
    → EndsAfter rows walk next (the_end walk next)
end_after rows walk next none = grind (arith, nat_tests)

empty_end : (rows : List Row) (n : ℕ) → (nat_eq n 0 ≡ false → look rows n ≡ None)
    → EndsEmpty rows (Id n) (cond (nat_eq n 0) (CycleAt n) (MissingAt n))
empty_end rows n none = grind (arith, nat_tests)

no_row : (o : Option Row) → ((row : Row) → o ≡ Some row → ⊥) → o ≡ None
no_row None none = refl
no_row (Some row) none = absurd (none row refl)

-- if the place has no row, or a row that is already in the walk
ends_here : (shelf : Shelf) (rows : List Row) (start : Place) (walk : List Row) → IsShelf shelf rows
    → ((row : Row) → row_at (place_after_rows start walk) rows ≡ Some row
    → has_id walk row.id ≡ true) → (end : WalkEnd) × EndsBy rows start walk end
ends_here shelf rows First [] ok none = (Done, no_row (first_row rows) (λ row is. let h = none row is in cc h))
ends_here shelf rows (Id n) [] ok none = (
  cond (nat_eq n 0) (CycleAt n) (MissingAt n),
  empty_end rows n (λ p. no_row (look rows n) (λ row is. let h = none row (rw p (rw p at is)) in cc h)),
)
ends_here shelf rows End [] ok none = (Done, tt)
ends_here shelf rows start (d ∷ walk) ok none =
    let next = last_next d.next walk in (
      the_end (d ∷ walk) next,
      end_after rows (d ∷ walk) next (λ fresh. no_row (row_at (place_after next) rows) (λ row is.
          let stands = none row (ap (λ (p : Place). row_at p rows) (place_after_rows-last d.next walk) ∙ is) in
          let id = linked shelf next rows row ok is in
          let h = sym (ap (has_id (d ∷ walk)) id.0 ∙ stands) ∙ fresh in cc h)),
    )

-- a walk from the place that has an end
abbrev HasWalk : List Row → Place → Type 0
HasWalk rows start = (walk : List Row) × (end : WalkEnd) × IsWalk rows start walk × EndsBy rows start walk end

decide : (shelf : Shelf) (rows : List Row) (start : Place) (done : List Row) → IsShelf shelf rows
    → IsWalk rows start done
    → ((row : Row) → row_at (place_after_rows start done) rows ≡ Some row
    → has_id done row.id ≡ false → HasWalk rows start) → HasWalk rows start
decide shelf rows start done ok w go = by (row_at (place_after_rows start done) rows) refl
  where
    ending : ((row : Row) → row_at (place_after_rows start done) rows ≡ Some row
        → has_id done row.id ≡ true) → HasWalk rows start
    ending none = let e = ends_here shelf rows start done ok none in (done, e.0, w, e.1)

    stands : (row : Row) → row_at (place_after_rows start done) rows ≡ Some row → (b : Bool)
        → has_id done row.id ≡ b → HasWalk rows start
    stands row is true has = ending (λ r found. let same : r ≡ row = let h = sym found ∙ is in cc h in rw same has)
    stands row is false fresh = go row is fresh

    by : (o : Option Row) → row_at (place_after_rows start done) rows ≡ o → HasWalk rows start
    by None is = ending (λ r found. let h = sym is ∙ found in cc h)
    by (Some row) is = stands row is (has_id done row.id) refl

-- the walk that continues these rows
walk_from : (shelf : Shelf) (rows : List Row) (start : Place) → IsShelf shelf rows
    → (fuel : ℕ) (done : List Row) → IsWalk rows start done → left_over rows done ≤ fuel
    → HasWalk rows start
walk_from shelf rows start ok zero done w left = decide shelf rows start done ok w (λ row found fresh.
    let lt = left_over_lt rows done row (found_at shelf (place_after_rows start done) rows row ok found).1 fresh in absurd (omega (arith, lt, left)))
walk_from shelf rows start ok (suc n) done w left = decide shelf rows start done ok w (λ row found fresh.
    let lt = left_over_lt rows done row (found_at shelf (place_after_rows start done) rows row ok found).1 fresh in
    walk_from shelf rows start ok n (done ++ row ∷ []) (longer shelf rows start done row ok w found fresh) (omega (arith, lt, left)))

pub has_walk : (shelf : Shelf) (rows : List Row) (start : Place) → IsShelf shelf rows
    → HasWalk rows start
has_walk shelf rows start ok = walk_from shelf rows start ok (left_over rows []) [] (record { of_shelf = tt; distinct = tt; first = search rules; links = tt }) (omega arith)
