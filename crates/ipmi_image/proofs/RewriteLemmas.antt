-- Building texts piece by piece.
use Rattle.std.proofs.Common.{◌≡◌, ℕ, zero, suc, ◌+◌, ◌/◌, ◌≤◌, ◌<◌, List, [], ◌∷◌, length, take, drop, refl, append_assoc, append-nil, arith, length-drop}
use Rattle.std.proofs.lemmas.List.{map-append, drop_more, take_min, drop_min}
use Rattle.std.proofs.lemmas.List.Folds.{concat-append}
use Rattle.hex.specs.Hex.{encode_with}
use Rattle.ipmi_image.specs.Below.{Row}
use Rattle.ipmi_image.specs.Prelude.{SavedRow, chained, first_id, hex_of, parts_of, id_of}
use Rattle.ipmi_image.proofs.RowsLemmas.{drop-past, found_below}

-- a fact that holds for each LUN
pub of_lun : (P : ℕ → Type 0) → P 0 → P 1 → P 2 → P 3 → (lun : ℕ) → lun ≤ 3 → P lun
of_lun P a b c d zero h = a
of_lun P a b c d (suc zero) h = b
of_lun P a b c d (suc (suc zero)) h = c
of_lun P a b c d (suc (suc (suc zero))) h = d
of_lun P a b c d (suc (suc (suc (suc n)))) h = absurd (omega (arith, h))

pub drop_hex_of_lun : (lun : ℕ) → lun ≤ 3 → drop 1 (hex_of 1 lun) ≡ (48 + lun) ∷ []
unfolding encode_with
drop_hex_of_lun = of_lun (λ lun. drop 1 (hex_of 1 lun) ≡ (48 + lun) ∷ []) refl refl refl refl

-- the first part, then the parts of the remaining bytes
pub parts_of_more : (bytes : List ℕ) → 0 < length bytes
    → parts_of bytes ≡ take 64 bytes ∷ parts_of (drop 64 bytes)
parts_of_more bytes some = rw count refl
  where
    count : (length bytes + 63) / 64 ≡ suc ((length (drop 64 bytes) + 63) / 64)
    count = let len = length-drop 64 bytes in rw len (omega (arith, some))

pub first_id-chained : (rows : List SavedRow)
    → first_id (λ (row : Row). row.id) (chained rows) ≡ first_id id_of rows
first_id-chained [] = refl
first_id-chained (row ∷ rows) = refl

-- concatenated texts
pub ruleset texts = (map-append, concat-append, append_assoc, append-nil, drop_more, take_min, drop_min)

-- the end of the rows
pub ruleset rows_end = (append-nil, drop-past, found_below)
