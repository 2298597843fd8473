-- Rows of a well-formed shelf.
use Rattle.std.proofs.Common.{◌≡◌, ◌≢◌, ℕ, Bool, true, false, cond, nat_eq, ◌==◌, Some, List, [], ◌∷◌, ◌++◌, refl, subst, arith, eqb-true}
use Rattle.std.proofs.lemmas.Bool.{eqb-false, or_parts}
use Rattle.std.proofs.lemmas.Bool.Decides.{nat_tests}
use Rattle.ipmi_bus.specs.Prelude.{Shelf, Row, IsRow, IsShelf, AllRows, DistinctIds, LacksId, look, row_with_id, first_row, has_id}

-- a row that is found is well formed and has the id
pub found_row : (shelf : Shelf) (rows : List Row) (n : ℕ) (row : Row) → AllRows shelf rows
    → row_with_id n rows ≡ Some row → IsRow shelf row × (row.id ≡ n)
found_row shelf [] n row all found = cc found
found_row shelf (r ∷ rows) n row all found = by_id (λ h. found_row shelf rows n row all.1 h) (r.id == n) refl found
  where
    by_id : (row_with_id n rows ≡ Some row → IsRow shelf row × (row.id ≡ n)) → (b : Bool)
        → nat_eq r.id n ≡ b → cond b (Some r) (row_with_id n rows) ≡ Some row
        → IsRow shelf row × (row.id ≡ n)
    by_id later true is found = let e : r ≡ row = cc found in subst (λ (x : Row). IsRow shelf x × (x.id ≡ n)) e (all.0, eqb-true _ _ is)
    by_id later false is found = later found

first_is_row : (shelf : Shelf) (rows : List Row) (row : Row) → AllRows shelf rows
    → first_row rows ≡ Some row → IsRow shelf row
first_is_row shelf rows row all found = grind arith

pub look_row : (shelf : Shelf) (rows : List Row) (n : ℕ) (row : Row) → IsShelf shelf rows
    → look rows n ≡ Some row → IsRow shelf row
look_row shelf rows n row ok found = grind (arith, nat_tests, first_is_row shelf rows row ok.all, found_row shelf rows n row ok.all)

-- ---- a row after others

LacksId-snoc : (n : ℕ) (done : List Row) (row : Row) → LacksId n done → row.id ≢ n
    → LacksId n (done ++ row ∷ [])
LacksId-snoc n [] row lacks ne = (ne, tt)
LacksId-snoc n (d ∷ done) row lacks ne = (lacks.0, LacksId-snoc n done row lacks.1 ne)

pub DistinctIds-snoc : (done : List Row) (row : Row) → DistinctIds done → has_id done row.id ≡ false
    → DistinctIds (done ++ row ∷ [])
DistinctIds-snoc [] row distinct fresh = (tt, tt)
DistinctIds-snoc (d ∷ done) row distinct fresh =
    let parts = or_parts (nat_eq row.id d.id) (has_id done row.id) fresh in
    (LacksId-snoc d.id done row distinct.0 (eqb-false row.id d.id parts.0), DistinctIds-snoc done row distinct.1 parts.1)
