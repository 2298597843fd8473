-- Both definitions of a byte in hex agree.
use Rattle.std.proofs.Common.{◌≡◌, ◌/◌, ◌%◌, ◌<◌, ◌≤◌, ℕ, List, [], ◌∷◌, ap₂, arith, false, length, slice_index, take}
use Rattle.std.proofs.lemmas.List.FromFn.{get_or-map-range_with_len}
use Rattle.std.specs.Fmt.{digit_glyph}
use Rattle.hex.specs.Hex.{encode_with, lower_digits}
use Rattle.ipmi_text.specs.FieldText.{binary_text}
use Rattle.ipmi_text.specs.Hex.{hex_byte}

one_digit : (d : ℕ) → d < 16 → slice_index lower_digits d ≡ digit_glyph false d
one_digit d below = get_or-map-range_with_len (digit_glyph false) 0 16 d d 0 below (omega arith)

pub binary_text-one : (byte : ℕ) → byte < 256 → binary_text (byte ∷ []) ≡ hex_byte byte
unfolding encode_with
binary_text-one byte below =
    ap₂ (λ (high low : ℕ). high ∷ low ∷ []) (one_digit (byte / 16) (omega (arith, below))) (one_digit (byte % 16) (omega (arith, below)))

pub binary_text-first : (bytes : List ℕ) → 1 ≤ length bytes → slice_index bytes 0 < 256
    → binary_text (take 1 bytes) ≡ hex_byte (slice_index bytes 0)
binary_text-first [] some below = absurd (omega (arith, some))
binary_text-first (byte ∷ bytes) some below = binary_text-one byte below
