-- A text is cut at its separators.
use Rattle.std.proofs.Common.{◌≡◌, ℕ, ◌+◌, ◌<◌, false, nat_eq, Option, None, Some, MatchOption, List, [], ◌∷◌, ◌++◌, length, take, drop, refl, arith, All, eq-eqb}
use Rattle.std.specs.List.{position_or_len}
use Rattle.std.proofs.lemmas.Bool.{false_from_ne_true}
use Rattle.std.proofs.lemmas.List.Elements.{All-from_get_or}
use Rattle.std.proofs.lemmas.List.Splits.{slice_split_none, slice_split_at, slice_split_first, length-slice_split}
use Rattle.std.proofs.lemmas.List.Sums.{position_or_len_is}
use Rattle.memchr.specs.Find.{IsFirstByte, is_byte}
use Rattle.ipmi_image.specs.Prelude.{pieces}

-- no byte is the separator
abbrev pub Lacks : ℕ → List ℕ → Type 0
Lacks separator bytes = All (λ b. nat_eq b separator ≡ false) bytes

-- a text without the separator is one piece
pub pieces-one : (separator : ℕ) (bytes : List ℕ) → Lacks separator bytes
    → pieces separator bytes ≡ bytes ∷ []
unfolding pieces
pieces-one separator bytes lacks = slice_split_none (λ b. nat_eq b separator) bytes lacks

-- the first separator comes after the first piece
pub pieces-more : (separator : ℕ) (piece rest : List ℕ) → Lacks separator piece
    → pieces separator (piece ++ separator ∷ rest) ≡ piece ∷ pieces separator rest
unfolding pieces
pieces-more separator piece rest lacks = slice_split_at (λ b. nat_eq b separator) piece separator rest lacks (eq-eqb separator separator refl)

pub pieces_cut : (separator : ℕ) (bytes : List ℕ) (at : Option ℕ)
    → IsFirstByte (is_byte separator) bytes at
    → MatchOption at (pieces separator bytes ≡ bytes ∷ [])
    (λ k. pieces separator bytes ≡ take k bytes ∷ pieces separator (drop (k + 1) bytes))
unfolding pieces
pieces_cut separator bytes None none = slice_split_none (is_byte separator) bytes (All-from_get_or (λ b. is_byte separator b ≡ false) bytes 0 (λ k lt. false_from_ne_true _ (none k (omega arith) lt)))
pieces_cut separator bytes (Some k) first =
    let lt : k < length bytes = first.0.high in
    let at : position_or_len (is_byte separator) bytes ≡ k =
    position_or_len_is (is_byte separator) bytes k 0 (omega (arith, lt))
    (λ j below. false_from_ne_true _ (first.0.before j (omega arith) below)) (λ h. first.1) in
    rw at at (slice_split_first (is_byte separator) bytes 0 (omega (arith, at, lt)))

-- there is at least one piece
pub length_pieces : (separator : ℕ) (bytes : List ℕ) → 0 < length (pieces separator bytes)
unfolding pieces
length_pieces separator bytes = let len = length-slice_split (λ b. nat_eq b separator) bytes in omega (arith, len)
