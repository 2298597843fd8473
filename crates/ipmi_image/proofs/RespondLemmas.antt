-- The row requested by an id.
use Rattle.std.proofs.Common.{◌≡◌, ◌≢◌, ◌==◌, ℕ, None, Some, List, [], ◌∷◌, length, refl, arith, option_and_then, if◌then◌else◌}
use Rattle.std.proofs.lemmas.Bool.Decides.{nat_tests}
use Rattle.ipmi_image.specs.Below.{Shelf, Sdr, Sel, Seen, current, look}
use Rattle.ipmi_image.specs.Prelude.{SavedRow, chained, place_asked, place_of, id_of}
use Rattle.ipmi_image.proofs.TableLemmas.{row_at, row_with_id_chained}

pub look_chained : (rows : List SavedRow) (id : ℕ)
    → look (chained rows) id ≡ option_and_then (row_at rows) (place_asked id rows)
look_chained [] id = grind arith
look_chained (row ∷ rows) id = grind (arith, row_with_id_chained (row ∷ rows) id)

-- the current reservation depends only on the reservations
pub current-same : (shelf : Shelf) (a b : Seen) → a.sdr_reservation ≡ b.sdr_reservation
    → a.sel_reservation ≡ b.sel_reservation → current shelf a ≡ current shelf b
current-same Sdr a b sdr sel = sdr
current-same Sel a b sdr sel = sel

-- an id other than 0000h requests the record with this id
pub place_asked_id : (id : ℕ) (rows : List SavedRow) → id ≢ 0
    → place_asked id rows ≡ place_of id_of id rows
place_asked_id id [] some = refl
place_asked_id id (row ∷ rows) some = grind (arith, nat_tests)

pub place_asked_first : (rows : List SavedRow)
    → place_asked 0 rows ≡ (if length rows == 0 then None else Some 0)
place_asked_first [] = refl
place_asked_first (row ∷ rows) = grind (arith, nat_tests)
