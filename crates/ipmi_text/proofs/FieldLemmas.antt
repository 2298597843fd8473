-- Texts of fields, step by step.
use Rattle.std.proofs.Common.{◌≡◌, ◌≢◌, ◌∙◌, ℕ, zero, suc, ◌+◌, ◌*◌, ◌/◌, ◌%◌, ◌^◌, ◌<◌, ◌≤◌, ◌==◌, true, false, List, [], ◌∷◌, ◌++◌, length, get_or, get_or-drop, slice_index, drop, map, encode_utf8, add-one, ap, drop-cons, sym, refl, arith, codes, nat_le, nat_lt, pow-add, IsAscii}
use Rattle.std.proofs.Math.Nat.{div-div-eq-div-mul}
use Rattle.std.proofs.lemmas.List.{drop-drop}
use Rattle.std.proofs.lemmas.List.Sums.{AllPass-from_list_all}
use Rattle.std.proofs.lemmas.Str.{encode_ascii}
use Rattle.std.proofs.lemmas.Str.Ascii.{IsAscii-from_all}
use Rattle.std.proofs.lemmas.Bool.Decides.{nat_tests}
use Rattle.std.specs.List.{position_or_len, range_with_len}
use Rattle.ipmi_text.specs.FieldText.{bcd_plus_character, bcd_plus_text, latin1_character, latin1_text, nibbles, number_of, six_bit_character, six_bit_text}

-- the first three bytes are the low part of the number
number_of-three : (bs : List ℕ) → number_of bs
    ≡ slice_index bs 0 + slice_index bs 1 * 256 + slice_index bs 2 * 65536
    + 16777216 * number_of (drop 3 bs)
number_of-three [] = refl
number_of-three (a ∷ []) = omega arith
number_of-three (a ∷ b ∷ []) = omega arith
number_of-three (a ∷ b ∷ c ∷ rest) = omega arith

-- four characters are three bytes
number_of-drop : (g i : ℕ) (bs : List ℕ) → ((k : ℕ) → slice_index bs k < 256)
    → number_of bs / 64 ^ (g * 4 + i) ≡ number_of (drop (g * 3) bs) / 64 ^ i
number_of-drop zero i bs bytes = ap (λ k. number_of bs / 64 ^ k) (omega arith)
number_of-drop (suc g) i bs bytes =
    let first : number_of bs / 16777216 ≡ number_of (drop 3 bs) = omega (arith, number_of-three bs, bytes 0, bytes 1, bytes 2) in
    let more = number_of-drop g i (drop 3 bs) (λ k. rw get_or-drop (bytes (3 + k))) in
    let place : suc g * 4 + i ≡ 4 + (g * 4 + i) = omega arith in
    let bytes_before : suc g * 3 ≡ 3 + g * 3 = omega arith in
    rw (place, bytes_before, pow-add 64 4 (g * 4 + i), ← div-div-eq-div-mul (number_of bs) 16777216 (64 ^ (g * 4 + i)), first, more, drop-drop) refl

low_digit : (v n i : ℕ) → i < 4 → (v + 16777216 * n) / 64 ^ i % 64 ≡ v / 2 ^ (i * 6) % 64
low_digit v n zero h = omega arith
low_digit v n (suc zero) h = omega arith
low_digit v n (suc (suc zero)) h = omega arith
low_digit v n (suc (suc (suc zero))) h = omega arith
low_digit v n (suc (suc (suc (suc i)))) h = absurd (omega arith)

-- a character from its three bytes
pub six_bit_character_is : (bs : List ℕ) (i a b c : ℕ) → ((k : ℕ) → slice_index bs k < 256)
    → a ≡ slice_index bs (i / 4 * 3) → b ≡ slice_index bs (i / 4 * 3 + 1)
    → c ≡ slice_index bs (i / 4 * 3 + 2)
    → (a + b * 256 % 4294967296 + c * 65536 % 4294967296) / 2 ^ (i % 4 * 6) % 64 + 0x20
    ≡ six_bit_character bs i
six_bit_character_is bs i a b c bytes a_is b_is c_is =
    let rest = drop (i / 4 * 3) bs in
    let place : i ≡ i / 4 * 4 + i % 4 = omega arith in
    let down : number_of bs / 64 ^ i ≡ number_of rest / 64 ^ (i % 4) = ap (λ k. number_of bs / 64 ^ k) place ∙ number_of-drop (i / 4) (i % 4) bs bytes in
    let second = bytes (i / 4 * 3 + 1) in
    let third = bytes (i / 4 * 3 + 2) in
    let start : i / 4 * 3 + 0 ≡ i / 4 * 3 = omega arith in
    let v : a + b * 256 % 4294967296 + c * 65536 % 4294967296 ≡ slice_index rest 0 + slice_index rest 1 * 256 + slice_index rest 2 * 65536
    = simp (get_or-drop, start) (omega arith) in
    rw (down, number_of-three rest, low_digit _ _ (i % 4) (omega arith), v) refl

pub six_bit_count : (n : ℕ) → 8 * n / 6 ≡ n + n / 3
six_bit_count n = omega arith

pub latin1_text-cons : (b : ℕ) (bs : List ℕ) → b ≢ 0
    → latin1_text (b ∷ bs) ≡ encode_utf8 (latin1_character b) ++ latin1_text bs
latin1_text-cons b bs h =
    let test : (b == 0) ≡ false = grind (arith, nat_tests) in
    let one_more : 1 + position_or_len (λ b. b == 0) bs ≡ suc (position_or_len (λ b. b == 0) bs) = omega arith in
    rw (test, one_more) refl

pub latin1_text-drop : (bs : List ℕ) (i : ℕ) → i < length bs → get_or bs i 0 ≢ 0
    → latin1_text (drop i bs) ≡ encode_utf8 (latin1_character (get_or bs i 0))
    ++ latin1_text (drop (i + 1) bs)
latin1_text-drop bs i within some = rw add-one (ap latin1_text (drop-cons bs i 0 within) ∙ latin1_text-cons (get_or bs i 0) (drop (suc i) bs) some)

-- bytes that are printed unchanged
pub all_plain : (bs : List ℕ)
    → ((k : ℕ) → k < length bs → (0x20 ≤ get_or bs k 0) × (get_or bs k 0 ≤ 0x7e))
    → bs ≡ latin1_text bs
all_plain [] plain = refl
all_plain (b ∷ bs) plain =
    let low = (plain 0 (omega arith)).0 in
    let high = (plain 0 (omega arith)).1 in
    let above : nat_le 0x20 b ≡ true = grind (arith, nat_tests) in
    let below : nat_le b 0x7e ≡ true = grind (arith, nat_tests) in
    let rest = all_plain bs (λ k h. plain (suc k) (omega arith)) in
    sym (latin1_text-cons b bs (λ e. absurd (omega (arith, e))) ∙ rw (above, below, encode_ascii b (omega arith), ← rest) refl)

IsAscii-map : (f : ℕ → ℕ) → ((x : ℕ) → f x < 128) → (xs : List ℕ) → IsAscii (map f xs)
IsAscii-map f h [] i = omega arith
IsAscii-map f h (x ∷ xs) zero = h x
IsAscii-map f h (x ∷ xs) (suc i) = IsAscii-map f h xs i

bcd_plus_characters : IsAscii (codes "0123456789 -.:,_")
bcd_plus_characters =
    let below = AllPass-from_list_all (λ b. nat_lt b 128) (codes "0123456789 -.:,_") refl in
    IsAscii-from_all (codes "0123456789 -.:,_") (λ k d within. let here = below k d within in grind (arith, nat_tests))

pub IsAscii_bcd_plus : (bs : List ℕ) → IsAscii (bcd_plus_text bs)
IsAscii_bcd_plus bs = IsAscii-map bcd_plus_character bcd_plus_characters (nibbles bs)

pub IsAscii_six_bit : (bs : List ℕ) → IsAscii (six_bit_text bs)
unfolding six_bit_text
IsAscii_six_bit bs = IsAscii-map (six_bit_character bs) (λ i. omega arith) (range_with_len 0 (8 * length bs / 6))
