-- The exact decimal of a value is a JSON number.
use Rattle.std.proofs.Common.{◌≡◌, ◌∙◌, ℕ, zero, suc, ◌*◌, ◌^◌, ◌<◌, ◌==◌, true, false, cond, ℤ, pos, negsuc, List, [], ◌∷◌, ◌++◌, length, drop, decimal, slice_index, Some, None, option_and_then, ap, refl, rules, sym, arith, ne_eqb, append-nil}
use Rattle.std.proofs.lemmas.Fmt.{decimal_digit, decimal_is_IsNumeral, first_decimal}
use Rattle.std.proofs.Math.Seq.{drop-append_seam}
use Rattle.std.proofs.lemmas.Bool.Decides.{nat_tests}
use Rattle.std.specs.Char.{digit_value, is_ascii_digit}
use Rattle.std.specs.List.{prefix_len}
use Rattle.std.specs.Str.Parse.{AllDigits}
use Rattle.json.specs.Print.{IsNumber}
use Rattle.json.specs.Word.{after_digits, after_exponent, after_fraction, after_minus, after_number, after_whole, head}
use Rattle.ipmi_text.specs.Decimal.{IsDecimalOf, IsWhole, after_point}

is_digit : (c : ℕ) → digit_value c < 10 → is_ascii_digit c ≡ true
is_digit c h = grind (arith, nat_tests)

no_mark : (c mark : ℕ) → is_ascii_digit mark ≡ false → digit_value c < 10 → (c == mark) ≡ false
no_mark c mark none h = grind (arith, nat_tests)

-- digits, then a text that does not begin with a digit
digits_end : (ds rest : List ℕ) → AllDigits 10 ds → is_ascii_digit (head rest) ≡ false
    → prefix_len is_ascii_digit (ds ++ rest) ≡ length ds
digits_end [] [] h e = refl
digits_end [] (r ∷ rest) h e = rw e refl
digits_end (d ∷ ds) rest h e = rw (is_digit d h.0, digits_end ds rest h.1 e) (omega arith)

after_digits_is : (d : ℕ) (ds rest : List ℕ) → AllDigits 10 (d ∷ ds)
    → is_ascii_digit (head rest) ≡ false → after_digits (d ∷ (ds ++ rest)) ≡ Some rest
after_digits_is d ds rest h e =
    let some : (suc (length ds) == 0) ≡ false = search arith in
    let all : prefix_len is_ascii_digit (d ∷ (ds ++ rest)) ≡ length (d ∷ ds) = digits_end (d ∷ ds) rest h e in
    let after : drop (length (d ∷ ds)) ((d ∷ ds) ++ rest) ≡ rest = drop-append_seam (d ∷ ds) rest in
    ap (λ n. cond (n == 0) None (Some (drop n (d ∷ (ds ++ rest))))) all ∙ ap (λ b. cond b None (Some (drop (length (d ∷ ds)) (d ∷ (ds ++ rest))))) some ∙ ap Some after

-- a fraction does not begin with a digit
no_digit : (fraction : List ℕ) → is_ascii_digit (head (after_point fraction)) ≡ false
no_digit [] = refl
no_digit (f ∷ fs) = refl

fraction_read : (fraction : List ℕ) → AllDigits 10 fraction
    → after_fraction (after_point fraction) ≡ Some []
fraction_read [] h = refl
fraction_read (f ∷ fs) h = rw (append-nil fs) at (after_digits_is f fs [] h refl)

module _ (fraction : List ℕ) where
  -- whole digits, then the fraction
  whole_read : (whole : List ℕ) → IsWhole whole
      → after_whole (whole ++ after_point fraction) ≡ Some (after_point fraction)
  whole_read [] h = absurd (omega (arith, h.numeral.0))
  whole_read (d ∷ []) h = elim (d == 48) as (λ b. cond b (Some (after_point fraction)) (after_digits (d ∷ after_point fraction)) ≡ Some (after_point fraction)) [
    | true ↦ refl
    | false ↦ after_digits_is d [] (after_point fraction) h.numeral.1 (no_digit fraction)
  ]
  whole_read (d ∷ e ∷ ds) h =
      let more : (d == 48) ≡ false = ne_eqb d 48 (λ same. omega (arith, h.first same)) in
      rw more (after_digits_is d (e ∷ ds) (after_point fraction) h.numeral.1 (no_digit fraction))

  unsigned_read : (whole : List ℕ) → IsWhole whole → AllDigits 10 fraction
      → option_and_then after_exponent (option_and_then after_fraction (after_whole (whole ++ after_point fraction))) ≡ Some []
  unsigned_read whole h all = rw (whole_read whole h) (rw (fraction_read fraction all) refl)

  no_sign : (whole : List ℕ) → IsWhole whole
      → after_minus (whole ++ after_point fraction) ≡ whole ++ after_point fraction
  no_sign [] h = absurd (omega (arith, h.numeral.0))
  no_sign (d ∷ ds) h = rw (no_mark d 45 refl h.numeral.1.0) refl

pub number_is : (value : ℤ) (text : List ℕ) → IsDecimalOf value text → IsNumber text
unfolding after_number
number_is (pos n) text h = rw (h.text_is, no_sign h.fraction h.whole h.is_whole) (unsigned_read h.fraction h.whole h.is_whole h.is_fraction.all_digits)
number_is (negsuc n) text h = rw h.text_is (unsigned_read h.fraction h.whole h.is_whole h.is_fraction.all_digits)

-- ---- whole numbers

first_is : (n : ℕ) → n < 2 ^ 64 → slice_index (decimal n) 0 ≡ 48 → length (decimal n) ≡ 1
first_is zero small e = ap length (decimal_digit 0 (omega arith))
first_is (suc n) small e = absurd (omega (arith, first_decimal (suc n) (omega arith) small))

-- the decimal of a whole number has no fraction
pub whole_decimal : (n : ℕ) → n < 2 ^ 64 → IsDecimalOf (pos (n * 10 ^ 16)) (decimal n)
whole_decimal n small =
    let numeral = decimal_is_IsNumeral n small in record {
      whole = decimal n;
      fraction = [];
      is_whole = record { numeral = numeral.0; first = first_is n small };
      is_fraction = search rules;
      text_is = sym (append-nil (decimal n));
      size_is = omega (arith, numeral.1);
    }
