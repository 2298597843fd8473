-- Hex digits, and the bytes in pairs of them.
use Rattle.std.proofs.Common.{◌≡◌, ℕ, zero, suc, ◌+◌, ◌*◌, ◌<◌, ◌≤◌, Bool, true, ◌&&◌, ◌==◌, None, Some, Result, Ok, Err, unwrap_or, List, length, slice_index, slice_set, take, drop, refl, ap, ◌∙◌, inl, inr, arith}
use Rattle.std.specs.Result.{result_ok}
use Rattle.std.proofs.lemmas.Bool.{and_parts, cases_lt, eqb-true}
use Rattle.hex.specs.declared.error.FromHexError.{FromHexError}
use Rattle.hex.specs.Hex.{decode_pairs, hex_digit_value, pair_value}
use Rattle.hex.proofs.HexLemmas.{decode_of-even}
use Rattle.hex.proofs.Pairs.{prepend, decode_step, decode_err, decode_done}
use Rattle.ipmi_image.specs.Prelude.{bytes_in}

-- the table has the value of the digit
abbrev is_value : List ℕ → ℕ → Bool
is_value table digit = slice_index table digit == unwrap_or (hex_digit_value digit) 256

abbrev pub are_values : List ℕ → ℕ → Bool
are_values table zero = true
are_values table (suc n) = is_value table n && are_values table n

pub value_at : (table : List ℕ) (n digit : ℕ) → are_values table n ≡ true → digit < n
    → slice_index table digit ≡ unwrap_or (hex_digit_value digit) 256
value_at table zero digit are lt = absurd (omega (arith, lt))
value_at table (suc n) digit are lt =
    let parts = and_parts (is_value table n) (are_values table n) are in
    elim (cases_lt digit n) [
      | inl below ↦ value_at table n digit parts.1 below
      | inr top ↦
          let e : digit ≡ n = omega (arith, lt, top) in
          rw e (eqb-true _ _ parts.0)
    ]

-- ---- pairs of digits, one after the other

pair_read : (r : Result ℕ FromHexError) (byte : ℕ) → result_ok r ≡ Some byte → r ≡ Ok byte
pair_read (Ok v) byte is = ap (λ o. Ok (unwrap_or o 0)) is
pair_read (Err e) byte is = cc is

module _ (digits bytes : List ℕ) (place : ℕ) (long : length digits ≡ 2 * length bytes)
    (so_far : decode_pairs 0 digits
    ≡ prepend (take place bytes) (decode_pairs (2 * place) (drop (2 * place) digits))) where
  -- the byte of a pair is appended to the bytes before
  pub pair_more : (byte : ℕ) → place < length bytes
      → result_ok (pair_value (slice_index digits (2 * place)) (slice_index digits (2 * place + 1)) (2 * place)) ≡ Some byte
      → decode_pairs 0 digits
      ≡ prepend (take (place + 1) (slice_set bytes place byte)) (decode_pairs (2 * (place + 1)) (drop (2 * (place + 1)) digits))
  pair_more byte lt is = decode_step digits bytes place byte (omega (arith, long, lt)) lt (pair_read _ byte is) so_far

  -- if a pair has no byte, the digits have no bytes
  pub pair_none : place < length bytes
      → result_ok (pair_value (slice_index digits (2 * place)) (slice_index digits (2 * place + 1)) (2 * place)) ≡ None
      → bytes_in digits ≡ None
  pair_none lt is = by (pair_value (slice_index digits (2 * place)) (slice_index digits (2 * place + 1)) (2 * place)) refl is
    where
      by : (r : Result ℕ FromHexError)
          → pair_value (slice_index digits (2 * place)) (slice_index digits (2 * place + 1)) (2 * place) ≡ r
          → result_ok r ≡ None → bytes_in digits ≡ None
      by (Ok v) eq none = cc none
      by (Err e) eq none = ap result_ok (decode_of-even digits (omega (arith, long)) ∙ decode_err digits bytes place e (omega (arith, long, lt)) eq so_far)

  pub pairs_done : length bytes ≤ place → bytes_in digits ≡ Some bytes
  pairs_done past = ap result_ok (decode_of-even digits (omega (arith, long)) ∙ decode_done digits bytes place past (omega (arith, long, past)) so_far)
