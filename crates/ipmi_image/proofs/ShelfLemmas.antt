-- The rows of some lines as a shelf, and the effect of one more row.
use Rattle.std.proofs.Common.{◌≡◌, ◌≢◌, ℕ, ◌<◌, Bool, true, false, not, nat_eq, nat_lt, ◌&&◌, is_some, None, Some, IfSome, List, [], ◌∷◌, ◌++◌, length, drop, refl, arith, eqb-true, unwrap_or}
use Rattle.std.proofs.lemmas.Bool.{eqb-false, ltb-false, not-false, or_parts}
use Rattle.std.proofs.lemmas.Bool.Decides.{nat_tests}
use Rattle.ipmi_image.specs.Below.{Shelf, AreBytes, Row, whole_len, largest_len, IsRow, AllRows, LacksId, DistinctIds, first_row, id_in, IsShelf, has_id}
use Rattle.ipmi_image.specs.Prelude.{SavedRow, LineFault, chained, is_no_record, is_no_id, begins_with_another, first_fault, row_fault}
use Rattle.ipmi_image.proofs.TableLemmas.{row_before}

-- a row with another next id is still a row
other_next : (shelf : Shelf) (row : SavedRow) (following : List SavedRow) (last : SavedRow)
    → last.id < 65535 → IsRow shelf (row_before [] row)
    → IsRow shelf (row_before (last ∷ following) row)
other_next shelf row following last lt is = record { id = is.id; next = grind (arith, is.next, lt); whole = is.whole; fits = is.fits; bytes = is.bytes }

AllRows-snoc : (shelf : Shelf) (rows : List SavedRow) (row : SavedRow)
    → AllRows shelf (chained rows) → IsRow shelf (row_before [] row)
    → AllRows shelf (chained (rows ++ row ∷ []))
AllRows-snoc shelf [] row all is = (is, tt)
AllRows-snoc shelf (r ∷ []) row all is = (other_next shelf r [] row is.id all.0, (is, tt))
AllRows-snoc shelf (r ∷ (s ∷ rows)) row all is = (all.0, AllRows-snoc shelf (s ∷ rows) row all.1 is)

LacksId-snoc : (n : ℕ) (rows : List SavedRow) (row : SavedRow) → LacksId n (chained rows)
    → row.id ≢ n → LacksId n (chained (rows ++ row ∷ []))
LacksId-snoc n [] row h ne = (ne, tt)
LacksId-snoc n (r ∷ rows) row h ne = (h.0, LacksId-snoc n rows row h.1 ne)

DistinctIds-snoc : (rows : List SavedRow) (row : SavedRow) → DistinctIds (chained rows)
    → has_id (chained rows) row.id ≡ false → DistinctIds (chained (rows ++ row ∷ []))
DistinctIds-snoc [] row h new = (tt, tt)
DistinctIds-snoc (r ∷ rows) row h new =
    let parts = or_parts (nat_eq row.id r.id) (has_id (chained rows) row.id) new in
    (LacksId-snoc r.id rows row h.0 (eqb-false row.id r.id parts.0), DistinctIds-snoc rows row h.1 parts.1)

-- the first row's bytes begin with its id
abbrev BeginsWithId : List SavedRow → Type 0
BeginsWithId rows = IfSome (first_row (chained rows)) (λ r. id_in r.bytes ≡ r.id)

BeginsWithId-snoc : (rows : List SavedRow) (row : SavedRow) → BeginsWithId rows
    → begins_with_another (chained rows) row ≡ false → BeginsWithId (rows ++ row ∷ [])
BeginsWithId-snoc [] row h own = eqb-true _ _ (not-false _ own)
BeginsWithId-snoc (r ∷ rows) row h own = h

later-snoc : (rows : List SavedRow) (row : SavedRow) → LacksId 0 (drop 1 (chained rows))
    → is_no_id (chained rows) row.id ≡ false → LacksId 0 (drop 1 (chained (rows ++ row ∷ [])))
later-snoc [] row h is_id = tt
later-snoc (r ∷ rows) row h is_id = LacksId-snoc 0 rows row h (λ zero. grind (arith, nat_tests))

-- ---- a row whose id was looked up last

module _ (shelf : Shelf) (rows : List Row) (row : SavedRow)
    (is_id : is_no_id rows row.id ≡ false) where
  pub row_fault-new : has_id rows row.id ≡ false
      → row_fault shelf rows row ≡ first_fault
      ((is_no_record shelf row.bytes, LineFault.Length)
      ∷ (begins_with_another rows row, LineFault.FirstId) ∷ [])
  row_fault-new new = rw (is_id, new) refl

  pub row_fault-twice : has_id rows row.id ≡ true → row_fault shelf rows row ≡ Some LineFault.Twice
  row_fault-twice old = rw (is_id, old) refl

-- ---- a row without a fault

no_fault : (a b c d : Bool) → first_fault
    ((a, LineFault.Id) ∷ (b, LineFault.Twice) ∷ (c, LineFault.Length) ∷ (d, LineFault.FirstId) ∷ [])
    ≡ None → (a ≡ false) × (b ≡ false) × (c ≡ false) × (d ≡ false)
no_fault a b c d fine = grind arith

-- the row may come after the rows of these lines
pub shelf_with : (shelf : Shelf) (rows : List SavedRow) (row : SavedRow)
    → row_fault shelf (chained rows) row ≡ None → row.id < 65536 → unwrap_or row.next 65535 < 65536
    → AreBytes row.bytes → IsShelf shelf (chained rows) → IsShelf shelf (chained (rows ++ row ∷ []))
shelf_with shelf rows row fine id next bytes old =
    let parts = no_fault (is_no_id (chained rows) row.id) (has_id (chained rows) row.id) (is_no_record shelf row.bytes) (begins_with_another (chained rows) row) fine in
    let ne = eqb-false row.id 65535 (or_parts (nat_eq row.id 0 && is_some (first_row (chained rows))) (nat_eq row.id 65535) parts.0).1 in
    let sized = or_parts (not (nat_eq (length row.bytes) (whole_len shelf row.bytes))) (nat_lt (largest_len shelf) (length row.bytes)) parts.2 in
    record {
      all = AllRows-snoc shelf rows row old.all (record {
        id = omega (arith, id, ne);
        next = next;
        whole = eqb-true _ _ (not-false _ sized.0);
        fits = ltb-false _ _ sized.1;
        bytes = bytes;
      });
      distinct = DistinctIds-snoc rows row old.distinct parts.1;
      first = BeginsWithId-snoc rows row old.first parts.3;
      later = later-snoc rows row old.later parts.0;
    }
