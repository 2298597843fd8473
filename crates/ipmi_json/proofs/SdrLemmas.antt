-- The text of units, with a space before it or without.
use Rattle.std.proofs.Common.{◌≡◌, ℕ, ◌<◌, List, [], ◌∷◌, arith, drop, length, refl, slice_index}
use Rattle.ipmi_text.specs.Units.{after_space}

-- a text that begins with a space, or is empty
pub begins_with_space : (unit : List ℕ) → 0 < length (after_space unit)
    → slice_index (after_space unit) 0 < 128
begins_with_space [] h = absurd (omega arith)
begins_with_space (c ∷ unit) h = omega arith

pub unspaced : (unit : List ℕ) → drop 1 (after_space unit) ≡ unit
unspaced [] = refl
unspaced (c ∷ unit) = refl
