-- The walk of a shelf is also the walk of a shelf with only its rows, with the same end.
use Rattle.std.proofs.Common.{◌≡◌, ℕ, false, None, Some, IfSome, List, [], ◌∷◌, length, take, ◌⊎◌, inl, inr, refl, sym, subst, arith}
use Rattle.std.specs.List.{Any}
use Rattle.std.proofs.lemmas.Bool.Decides.{nat_tests}
use Rattle.ipmi_capture.specs.Below.{AllOf, CycleAt, DistinctIds, Done, EndsBy, First, first_row, has_id, IsWalk, LacksId, last_next, Links, MissingAt, Row, row_with_id, rows_of, Shelf, Store, WalkEnd}
use Rattle.ipmi_capture.specs.Capture.{HasWalk, WalkOrLeft}
use Rattle.ipmi_capture.specs.Left.{EndIsNoted, LacksRecords}
use Rattle.ipmi_capture.specs.declared.left.Left.{Left}
use Rattle.ipmi_capture.specs.Phases.{AreRowsOf, AreWalk}

-- each of these rows is found by its id among the others
abbrev AllFound : List Row → List Row → Type 0
AllFound rows [] = Unit {0}
AllFound rows (row ∷ some) = (row_with_id row.id rows ≡ Some row) × AllFound rows some

found_after : (first : Row) (rows some : List Row) → LacksId first.id some → AllFound rows some
    → AllFound (first ∷ rows) some
found_after first rows [] lacks found = tt
found_after first rows (row ∷ some) lacks found =
    (grind (arith, nat_tests, lacks.0, found.0), found_after first rows some lacks.1 found.1)

all_found : (rows : List Row) → DistinctIds rows → AllFound rows rows
all_found [] distinct = tt
all_found (row ∷ rows) distinct = (grind (arith, nat_tests), found_after row rows rows distinct.0 (all_found rows distinct.1))

-- a row after another is also found by `look`, as its id is not 0000h
all_of_later : (all : List Row) (before : Row) (rows : List Row) → Links (before ∷ rows)
    → AllFound all rows → AllOf all rows
all_of_later all before [] links found = tt
all_of_later all before (row ∷ rows) links found =
    (grind (arith, nat_tests, links.1, found.0), all_of_later all row rows links.2 found.1)

all_of_itself : (walk : List Row) → DistinctIds walk → Links walk → AllOf walk walk
all_of_itself [] distinct links = tt
all_of_itself (row ∷ rows) distinct links =
    let found = all_found (row ∷ rows) distinct in
    (grind (arith, nat_tests, found.0), all_of_later (row ∷ rows) row rows links found.1)

none_found : (rows : List Row) (n : ℕ) → has_id rows n ≡ false → row_with_id n rows ≡ None
none_found [] n none = refl
none_found (row ∷ rows) n none = grind (arith, nat_tests, none_found rows n)

end_of_itself : (rows walk : List Row) (end : WalkEnd) → EndsBy rows First walk end
    → EndsBy walk First walk end
end_of_itself rows [] Done ends = refl
end_of_itself rows [] (CycleAt n) ends = ends
end_of_itself rows [] (MissingAt n) ends = ends
end_of_itself rows (row ∷ walk) Done ends = ends
end_of_itself rows (row ∷ walk) (CycleAt n) ends = ends
end_of_itself rows (row ∷ walk) (MissingAt n) ends =
    (ends.0, ends.1, ends.2, ends.3, grind (arith, nat_tests, ends.2, none_found (row ∷ walk) (last_next row.next walk) ends.3))

pub walk_of_itself : (rows walk : List Row) (end : WalkEnd) → IsWalk rows First walk
    → EndsBy rows First walk end → IsWalk walk First walk × EndsBy walk First walk end
walk_of_itself rows walk end is ends = (
  record {
    of_shelf = all_of_itself walk is.distinct is.links;
    distinct = is.distinct;
    first = begins walk;
    links = is.links;
  },
  end_of_itself rows walk end ends,
)
  where
    begins : (walk : List Row) → IfSome (first_row walk) (λ row. first_row walk ≡ Some row)
    begins [] = tt
    begins (row ∷ rows) = refl

-- an image whose rows are the walk of the store's shelf has that walk
pub same_walk : (shelf : Shelf) (left : List Left) (image store : Store)
    → AreWalk shelf left store (rows_of shelf image) → WalkOrLeft shelf left image store
same_walk shelf left image store are = λ walk end is ends. by walk end is ends (are walk end is ends)
  where
    by : (walk : List Row) (end : WalkEnd) → IsWalk (rows_of shelf store) First walk
        → EndsBy (rows_of shelf store) First walk end
        → AreRowsOf shelf left (rows_of shelf image) walk end
        → (HasWalk shelf image walk end × EndIsNoted shelf left end)
        ⊎ ((rows_of shelf image ≡ take (length (rows_of shelf image)) walk) × Any (LacksRecords shelf) left)
    by walk end is ends (inl same) =
        let own = subst (λ (rows : List Row). IsWalk rows First walk × EndsBy rows First walk end) (sym same.0) (walk_of_itself (rows_of shelf store) walk end is ends) in
        inl ((same.0, own.0, own.1), same.1)
    by walk end is ends (inr front) = inr front
