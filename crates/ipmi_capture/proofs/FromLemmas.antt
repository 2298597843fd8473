-- Walks from an id on the walk from the first record. Two shelves with the same walk from the first record also have the same
-- walk from the id.
use Rattle.std.proofs.Common.{◌≡◌, ◌≢◌, ℕ, Bool, true, false, IsTrue, ◌||◌, nat_eq, cond, None, Some, List, [], ◌∷◌, ◌⊎◌, inl, inr, refl, sym, ◌∙◌, arith}
use Rattle.std.proofs.lemmas.Bool.{false≢true}
use Rattle.std.proofs.lemmas.Bool.Decides.{nat_tests}
use Rattle.std.proofs.lemmas.Option.{none-some}
use Rattle.ipmi_capture.specs.Below.{AllOf, CycleAt, Done, End, EndsAfter, EndsBy, EndsEmpty, First, FoundIsRow, has_id, Id, IsShelf, IsWalk, last_next, Links, look, MissingAt, Row, row_at, Shelf, WalkEnd}

abbrev pub Among : List Row → Row → Type 0
Among [] row = ⊥
Among (x ∷ xs) row = (row ≡ x) ⊎ Among xs row

-- a row of a walk is found by its id
pub look_at : (rows walk : List Row) (row : Row) → AllOf rows walk → Among walk row
    → look rows row.id ≡ Some row
look_at rows [] row all among = absurd among
look_at rows (x ∷ xs) row all (inl is) = rw is all.0
look_at rows (x ∷ xs) row all (inr among) = look_at rows xs row all.1 among

-- an id on the walk is the id of one of its rows
with_id : (walk : List Row) (n : ℕ) → IsTrue (has_id walk n) → (row : Row) × Among walk row × (row.id ≡ n)
with_id [] n has = absurd (false≢true has)
with_id (x ∷ xs) n has = by (nat_eq n x.id) refl has (with_id xs n)
  where
    by : (b : Bool) → nat_eq n x.id ≡ b → (b || has_id xs n) ≡ true
        → (IsTrue (has_id xs n) → (row : Row) × Among xs row × (row.id ≡ n))
        → (row : Row) × Among (x ∷ xs) row × (row.id ≡ n)
    by true e has later = (x, inl refl, grind (arith, nat_tests, e))
    by false e has later = let there = later has in (there.0, inr there.1, there.2)

has_own : (walk : List Row) (row : Row) → Among walk row → IsTrue (has_id walk row.id)
has_own [] row among = absurd among
has_own (x ∷ xs) row (inl is) = grind (arith, nat_tests, is)
has_own (x ∷ xs) row (inr among) = grind (arith, nat_tests, has_own xs row among)

-- ---- the next id of a row of a walk

-- the id of a row of the walk, FFFFh, 0000h, or an id that no row has
abbrev Leads : List Row → List Row → ℕ → Type 0
Leads rows walk next = IsTrue (has_id walk next) ⊎ ((next ≡ 0xFFFF) ⊎ ((next ≡ 0) ⊎ (look rows next ≡ None)))

leads_end : (rows all : List Row) (e : WalkEnd) (next : ℕ) → EndsAfter rows all next e
    → Leads rows all next
leads_end rows all Done next ends = inr (inl ends)
leads_end rows all (CycleAt n) next ends = by (nat_eq next 0) refl ends.2
  where
    by : (b : Bool) → nat_eq next 0 ≡ b → (b || has_id all next) ≡ true → Leads rows all next
    by true e has = inr (inr (inl (grind (arith, nat_tests, e))))
    by false e has = inl has
leads_end rows all (MissingAt n) next ends = inr (inr (inr ends.4))

leads_from : (rows all : List Row) (end : WalkEnd) (row : Row) (rest : List Row)
    → Links (row ∷ rest) → ((x : Row) → Among rest x → IsTrue (has_id all x.id))
    → EndsAfter rows all (last_next row.next rest) end → (r : Row) → Among (row ∷ rest) r
    → Leads rows all r.next
leads_from rows all end row [] links own ends r (inl is) = rw is (leads_end rows all end row.next ends)
leads_from rows all end row [] links own ends r (inr among) = absurd among
leads_from rows all end row (after ∷ rest) links own ends r (inl is) = rw (is, links.0) (inl (own after (inl refl)))
leads_from rows all end row (after ∷ rest) links own ends r (inr among) = leads_from rows all end after rest links.2 (λ x in_rest. own x (inr in_rest)) ends r among

leads : (rows walk : List Row) (end : WalkEnd) → Links walk → EndsBy rows First walk end
    → (row : Row) → Among walk row → Leads rows walk row.next
leads rows [] end links ends row among = absurd among
leads rows (x ∷ xs) end links ends row among = leads_from rows (x ∷ xs) end x xs links (λ y in_rest. has_own (x ∷ xs) y (inr in_rest)) ends row among

-- ---- from an id of the walk

abbrev AllAmong : List Row → List Row → Type 0
AllAmong walk [] = Unit {0}
AllAmong walk (row ∷ rows) = Among walk row × AllAmong walk rows

all_of : (rows walk : List Row) → AllOf rows walk → (some : List Row) → AllAmong walk some
    → AllOf rows some
all_of rows walk all [] among = tt
all_of rows walk all (row ∷ some) among = (look_at rows walk row all among.0, all_of rows walk all some among.1)

last_of : (walk : List Row) (row : Row) (rows : List Row) → AllAmong walk (row ∷ rows)
    → (last : Row) × Among walk last × (last.next ≡ last_next row.next rows)
last_of walk row [] among = (row, among.0, refl)
last_of walk row (after ∷ rows) among = last_of walk after rows among.1

look_id : (rows walk : List Row) (row : Row) (n : ℕ) → AllOf rows walk → Among walk row
    → row.id ≡ n → look rows n ≡ Some row
look_id rows walk row n all among is = rw (sym is) (look_at rows walk row all among)

starts : (rows : List Row) (n : ℕ) (row : Row) → row_at (Id n) rows ≡ Some row
    → (look rows n ≡ Some row) × (n ≢ 0)
starts rows n row at = by (nat_eq n 0) refl at
  where
    by : (b : Bool) → nat_eq n 0 ≡ b → cond b None (look rows n) ≡ Some row → (look rows n ≡ Some row) × (n ≢ 0)
    by true e at = absurd (none-some row at)
    by false e at = (at, λ zero. grind (arith, nat_tests, e, zero))

starts_too : (rows : List Row) (n : ℕ) (row : Row) → n ≢ 0 → look rows n ≡ Some row
    → row_at (Id n) rows ≡ Some row
starts_too rows n row some at =
    let other : nat_eq n 0 ≡ false = grind (arith, nat_tests, some) in
    rw other (rw other at at)

module _ (found : FoundIsRow) (shelf : Shelf) (a b walk : List Row) (end : WalkEnd)
    (is_a : IsShelf shelf a) (on_a : IsWalk a First walk) (ends_a : EndsBy a First walk end)
    (on_b : IsWalk b First walk) (ends_b : EndsBy b First walk end) where
  -- a row that is found by an id of the walk is on the walk
  is_on : (n : ℕ) (row : Row) → IsTrue (has_id walk n) → look a n ≡ Some row
      → Among walk row × (row.id ≡ n)
  is_on n row has at =
      let there = with_id walk n has in
      let same : Some there.0 ≡ Some row = sym (look_id a walk there.0 n on_a.of_shelf there.1 there.2) ∙ at in
      by there.0 (grind (arith, same)) there.1 there.2
    where
      by : (x : Row) → row ≡ x → Among walk x → x.id ≡ n → Among walk row × (row.id ≡ n)
      by x is among id = rw is (among, id)

  -- and the row after it is on the walk
  after_on : (row after : Row) → Among walk row → row.next ≡ after.id → after.id ≢ 0
      → look a after.id ≡ Some after → IsTrue (has_id walk after.id)
  after_on row after among next some at = by (rw next at (leads a walk end on_a.links ends_a row among))
    where
      by : Leads a walk after.id → IsTrue (has_id walk after.id)
      by (inl has) = has
      by (inr (inl none)) = absurd (omega (arith, none, (found shelf a after.id after is_a at).id))
      by (inr (inr (inl zero))) = absurd (some zero)
      by (inr (inr (inr none))) = absurd (none-some after (sym none ∙ at))

  all_among : (row : Row) (rows : List Row) → Among walk row → AllOf a (row ∷ rows)
      → Links (row ∷ rows) → AllAmong walk (row ∷ rows)
  all_among row [] among all links = (among, tt)
  all_among row (after ∷ rows) among all links =
      let has = after_on row after among links.0 links.1 all.1.0 in
      (among, all_among after rows (is_on after.id after has all.1.0).0 all.1 links.2)

  -- an id that no row of one shelf has is not in the other shelf either
  none_after : (row : Row) (next : ℕ) → Among walk row → row.next ≡ next → next ≢ 0xFFFF → next ≢ 0
      → look a next ≡ None → look b next ≡ None
  none_after row next among is some not_zero none = by (rw is at (leads b walk end on_b.links ends_b row among))
    where
      by : Leads b walk next → look b next ≡ None
      by (inl has) = let there = with_id walk next has in absurd (none-some there.0 (sym none ∙ look_id a walk there.0 next on_a.of_shelf there.1 there.2))
      by (inr (inl last)) = absurd (some last)
      by (inr (inr (inl zero))) = absurd (not_zero zero)
      by (inr (inr (inr no_row))) = no_row

  end_on : (n : ℕ) (rows : List Row) (e : WalkEnd) → IsTrue (has_id walk n) → AllAmong walk rows
      → EndsBy a (Id n) rows e → EndsBy b (Id n) rows e
  end_on n [] Done has among ends = ends
  end_on n [] (CycleAt m) has among ends = ends
  end_on n [] (MissingAt m) has among ends =
      let there = with_id walk n has in
      absurd (none-some there.0 (sym ends.2 ∙ look_id a walk there.0 n on_a.of_shelf there.1 there.2))
  end_on n (row ∷ rows) Done has among ends = ends
  end_on n (row ∷ rows) (CycleAt m) has among ends = ends
  end_on n (row ∷ rows) (MissingAt m) has among ends =
      let last = last_of walk row rows among in
      (ends.0, ends.1, ends.2, ends.3, none_after last.0 (last_next row.next rows) last.1 last.2 ends.1 ends.2 ends.4)

  pub from_id : (n : ℕ) (rows : List Row) (e : WalkEnd) → IsTrue (has_id walk n)
      → IsWalk a (Id n) rows → EndsBy a (Id n) rows e
      → IsWalk b (Id n) rows × EndsBy b (Id n) rows e
  from_id n [] e has is ends = (record { of_shelf = tt; distinct = is.distinct; first = tt; links = is.links }, end_on n [] e has tt ends)
  from_id n (row ∷ rows) e has is ends =
      let start = starts a n row is.first in
      let on = is_on n row has start.0 in
      let among = all_among row rows on.0 is.of_shelf is.links in (
        record {
          of_shelf = all_of b walk on_b.of_shelf (row ∷ rows) among;
          distinct = is.distinct;
          first = starts_too b n row start.1 (look_id b walk row n on_b.of_shelf on.0 on.1);
          links = is.links;
        },
        end_on n (row ∷ rows) e has among ends,
      )

-- from the end
pub from_end : (a b rows : List Row) (e : WalkEnd) → IsWalk a End rows → EndsBy a End rows e
    → IsWalk b End rows × EndsBy b End rows e
from_end a b [] e is ends = (record { of_shelf = tt; distinct = is.distinct; first = tt; links = is.links }, at_end e ends)
  where
    at_end : (e : WalkEnd) → EndsEmpty a End e → EndsEmpty b End e
    at_end Done ends = tt
    at_end (CycleAt n) ends = ends
    at_end (MissingAt n) ends = ends
from_end a b (row ∷ rows) e is ends = absurd (none-some row is.first)
