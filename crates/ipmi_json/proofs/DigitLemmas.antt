-- Hex digits, lane by lane.
use Rattle.std.proofs.Common.{◌≡◌, ◌∙◌, ℕ, zero, suc, ◌+◌, ◌*◌, ◌/◌, ◌%◌, ◌^◌, ◌<◌, ◌≤◌, List, [], ◌∷◌, ◌++◌, Fits, ap, append_assoc, arith, bit_and, drop, get_or, length, map, refl, replicate, rules, slice_index, subst, sym, take, w8}
use Rattle.std.proofs.lemmas.List.{get_or-map, length-map, ext_get_or}
use Rattle.std.proofs.lemmas.Nat.{and_le_r, and_mask}
use Rattle.std.proofs.lemmas.Simd.{Each1-all, Each1-weaker, Each1-zip2, Each2-splat, below_from_Fits, length-zip2, swz_l, SwzOk, SwzOk-from_below, chunk-drop, length-chunk, length-swz_l, get_or-swz_l_below, pick_l_whole, take_more_put_chunk, zip2_splat}
use Rattle.std.proofs.lemmas.Str.Ascii.{IsAscii-cons, IsAscii-nil}
use Rattle.std.specs.Str.{IsAscii}
use lib.Lanes.{zip2, Each1, chunk, pick_l, put_chunk}
use Rattle.hex.specs.Hex.{encode_lower, encode_with, lower_digits}
use Rattle.hex.proofs.HexLemmas.{IsAscii-encode_with, length-encode_with}

abbrev pub IsBlock : List ℕ → Type 0
IsBlock v = (length v ≡ 16) × Each1 (Fits w8) v

lane_fits : (v : List ℕ) (i : ℕ) → Each1 (Fits w8) v → get_or v i 0 < 256
lane_fits [] i h = omega arith
lane_fits (x ∷ xs) zero h = h.0.fits
lane_fits (x ∷ xs) (suc i) h = lane_fits xs i h.1

-- ---- places in the table

abbrev pub down : ℕ → ℕ → ℕ
down a b = a / 2 ^ b

pub high_ok : (v : List ℕ) → IsBlock v → SwzOk w8 16 16 0 (zip2 down v (replicate 16 4))
high_ok v fits =
    let small = Each1-weaker (λ a. a < 256) (λ a. a / 16 < 16) (λ a h. omega arith) v (below_from_Fits w8 v fits.1) in
    SwzOk-from_below w8 16 1 16 0 (zip2 down v (replicate 16 4)) refl (omega (arith, length-zip2 down v (replicate 16 4) fits.0))
    (Each1-zip2 down (λ j. j < 16) v (replicate 16 4) (Each2-splat (λ a b. down a b < 16) v 16 4 small))

pub low_ok : (v : List ℕ) → IsBlock v → SwzOk w8 16 16 0 (zip2 bit_and v (replicate 16 15))
low_ok v fits =
    let small = Each1-all (λ a. bit_and a 15 < 16) (λ a. omega (arith, and_le_r a 15)) v in
    SwzOk-from_below w8 16 1 16 0 (zip2 bit_and v (replicate 16 15)) refl (omega (arith, length-zip2 bit_and v (replicate 16 15) fits.0))
    (Each1-zip2 bit_and (λ j. j < 16) v (replicate 16 15) (Each2-splat (λ a b. bit_and a b < 16) v 16 15 small))

-- a table read at places g x below 16
pub looked_up : (t : List ℕ) (g : ℕ → ℕ) (v js : List ℕ) → IsBlock v → ((i : ℕ) → i < 16 → get_or js i 0 ≡ g (get_or v i 0))
    → length js ≡ 16 → ((x : ℕ) → x < 256 → g x < 16) → swz_l w8 16 t 0 js ≡ map (λ x. get_or t (g x) 0) v
looked_up t g v js fits is_g long small =
    ext_get_or 0 _ _ (length-swz_l w8 16 t 0 js ∙ long ∙ sym (length-map v (λ x. get_or t (g x) 0) ∙ fits.0)) (λ i h.
    let lt : i < 16 = omega (arith, length-swz_l w8 16 t 0 js) in
    let within : i < length v = omega (arith, fits.0) in
    let is : get_or js i 0 ≡ g (get_or v i 0) = is_g i lt in
    let below : get_or js i 0 < 16 = omega (arith, small (get_or v i 0) (lane_fits v i fits.1)) in
    let place : 16 * ((0 + i) / 16) + get_or js i 0 ≡ g (get_or v i 0) = omega arith in
    get_or-swz_l_below w8 16 t 0 js i (omega arith) below
    ∙ ap (λ k. get_or t k 0) place ∙ sym (get_or-map (λ x. get_or t (g x) 0) v i 0 0 within))

pub first_looked_up : (v : List ℕ) → IsBlock v
    → swz_l w8 16 lower_digits 0 (zip2 down v (replicate 16 4)) ≡ map (λ x. get_or lower_digits (x / 16) 0) v
first_looked_up v fits =
    let is = zip2_splat down v 16 4 fits.0 in
    looked_up lower_digits (λ x. x / 16) v _ fits
    (λ i lt. ap (λ l. get_or l i 0) is ∙ get_or-map (λ x. x / 16) v i 0 0 (omega (arith, fits.0)))
    (length-zip2 down v (replicate 16 4) fits.0 ∙ fits.0) (λ x h. omega arith)

pub second_looked_up : (v : List ℕ) → IsBlock v
    → swz_l w8 16 lower_digits 0 (zip2 bit_and v (replicate 16 15)) ≡ map (λ x. get_or lower_digits (x % 16) 0) v
second_looked_up v fits =
    let is = zip2_splat bit_and v 16 15 fits.0 in
    looked_up lower_digits (λ x. x % 16) v _ fits
    (λ i lt. ap (λ l. get_or l i 0) is ∙ get_or-map (λ x. bit_and x 15) v i 0 0 (omega (arith, fits.0)) ∙ and_mask (get_or v i 0) 4)
    (length-zip2 bit_and v (replicate 16 15) fits.0 ∙ fits.0) (λ x h. omega arith)

-- ---- both digits

abbrev first : ℕ → ℕ
first x = get_or lower_digits (x / 16) 0

abbrev second : ℕ → ℕ
second x = get_or lower_digits (x % 16) 0

abbrev pub turns : List ℕ
turns = 0 ∷ 16 ∷ 1 ∷ 17 ∷ 2 ∷ 18 ∷ 3 ∷ 19 ∷ 4 ∷ 20 ∷ 5 ∷ 21 ∷ 6 ∷ 22 ∷ 7 ∷ 23 ∷ 8 ∷ 24 ∷ 9 ∷ 25 ∷ 10 ∷ 26 ∷ 11 ∷ 27 ∷ 12 ∷ 28 ∷ 13 ∷ 29 ∷ 14 ∷ 30 ∷ 15 ∷ 31 ∷ []

abbrev TakesTurns : List ℕ → Type 0
TakesTurns v = pick_l 0 (map first v ++ map second v) turns ≡ encode_lower v

pub takes_turns : (v : List ℕ) → length v ≡ 16 → TakesTurns v
unfolding encode_with
takes_turns v h = subst TakesTurns (pick_l_whole 0 v 16 h) refl

-- ---- ASCII

ascii_below : (bs : List ℕ) → Each1 (λ b. b < 128) bs → IsAscii bs
ascii_below [] h = IsAscii-nil
ascii_below (b ∷ bs) h = IsAscii-cons b bs h.0 (ascii_below bs h.1)

lower_ascii : IsAscii lower_digits
lower_ascii = ascii_below lower_digits (search rules)

pub digits_ascii : (bytes : List ℕ) → IsAscii (encode_lower bytes)
digits_ascii bytes = IsAscii-encode_with lower_digits bytes lower_ascii

-- ---- the digits of one block after another

encode-append : (t xs ys : List ℕ) → encode_with t (xs ++ ys) ≡ encode_with t xs ++ encode_with t ys
unfolding encode_with
encode-append t [] ys = refl
encode-append t (x ∷ xs) ys = ap (λ l. slice_index t (x / 16) ∷ slice_index t (x % 16) ∷ l) (encode-append t xs ys)

module _ (bytes digits block : List ℕ) (at : ℕ) (room : at + 16 ≤ length bytes)
    (long : length digits ≡ 2 * length bytes) (is : block ≡ encode_lower (chunk at 16 bytes)) where
  rest_is : encode_lower (drop at bytes) ≡ block ++ encode_lower (drop (at + 16) bytes)
  rest_is =
      ap encode_lower (chunk-drop at 16 bytes)
      ∙ encode-append lower_digits (chunk at 16 bytes) (drop (at + 16) bytes)
      ∙ ap (λ l. l ++ encode_lower (drop (at + 16) bytes)) (sym is)

  size_is : length block ≡ 32
  size_is =
      let size = length-encode_with lower_digits (chunk at 16 bytes) in
      ap length is ∙ omega (arith, size, length-chunk at 16 bytes room)

  pub block_stored : take (2 * at) digits ++ encode_lower (drop at bytes) ≡ encode_lower bytes
      → take (2 * (at + 16)) (put_chunk (2 * at) digits block) ++ encode_lower (drop (at + 16) bytes) ≡ encode_lower bytes
  block_stored before =
      let front : take (2 * (at + 16)) (put_chunk (2 * at) digits block) ≡ take (2 * at) digits ++ block = take_more_put_chunk (2 * at) digits block (2 * (at + 16)) (omega (arith, size_is)) (omega (arith, long, room)) in
      ap (λ l. l ++ encode_lower (drop (at + 16) bytes)) front
      ∙ append_assoc (take (2 * at) digits) block (encode_lower (drop (at + 16) bytes))
      ∙ ap (λ l. take (2 * at) digits ++ l) (sym rest_is)
      ∙ before
