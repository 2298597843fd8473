-- The digits of a fraction by long division.
use Rattle.std.proofs.Common.{◌≡◌, ◌≢◌, ℕ, suc, ◌+◌, ◌-◌, ◌*◌, ◌/◌, ◌%◌, ◌^◌, ◌<◌, ◌≤◌, List, [], ◌∷◌, ◌++◌, length, get_or, slice_index, replicate, arith, refl, zero, ap, sym, subst, ◌∙◌, append_assoc, append-nil, length-append, pow-suc, div-lt_iff_lt-mul, decimal, ℤ, unsigned_abs}
use Rattle.std.proofs.Math.Nat.{one-le-pow}
use Rattle.std.specs.Char.{digit_value}
use Rattle.std.specs.Str.Parse.{AllDigits, digits_value}
use Rattle.std.proofs.lemmas.Int.Digits.{digits_value_push, digits_push}
use Rattle.std.proofs.lemmas.List.{get_or_push}
use Rattle.std.proofs.lemmas.Bool.Decides.{nat_tests}
use Rattle.std.proofs.Math.ListN.{get_or-append}
use Rattle.std.proofs.lemmas.Fmt.{decimal_by_steps_wide, decimal_is_IsNumeral_wide}
use Rattle.ipmi_text.specs.Appended.{Appends}
use Rattle.ipmi_text.specs.Decimal.{AppendsFraction, IsDecimalOf, IsWhole, after_point, filled, sign_of}

-- `new` is `old` followed by a point and the first digits of the fraction n; `rest` is the remainder, below the last place
pub record HasWritten (n : ℕ) (old new : List ℕ) (place rest : ℕ) : Type 0 where
  pub digits : List ℕ
  pub text_is : new ≡ old ++ 46 ∷ digits
  pub all_digits : AllDigits 10 digits
  pub short : length digits ≤ 16
  pub place_is : place ≡ 10 ^ (16 - length digits)
  pub below : rest < place
  pub sum : n ≡ digits_value 10 digits * place + rest
  pub last : rest ≡ 0 → slice_index digits (length digits - 1) ≢ 48

pub digit_value-digit : (d : ℕ) → d < 10 → digit_value (48 + d) ≡ d
digit_value-digit d h = grind (arith, nat_tests)

-- if there is a remainder, the place is ten times the next place
next_place : (k place rest : ℕ) → place ≡ 10 ^ k → rest < place → rest ≢ 0
    → (0 < k) × ((0 < place / 10) × ((place ≡ place / 10 * 10) × (place / 10 ≡ 10 ^ (k - 1))))
next_place zero place rest is below some = absurd (some (omega arith))
next_place (suc k) place rest is below some =
    let power = pow-suc 10 k in
    let some_power = one-le-pow k 10 (omega arith) in
    let same : suc k - 1 ≡ k = omega arith in
    (omega arith, (omega arith, (omega arith, rw same (omega arith))))

last_digit : (q rest : ℕ) → 0 < q → rest ≢ 0 → rest % q ≡ 0 → 48 + rest / q ≢ 48
last_digit q rest h some none e =
    let zero_digit : rest / q ≡ 0 = omega arith in
    let all : q * (rest / q) + rest % q ≡ rest = omega arith in
    some (sym all ∙ rw zero_digit (omega arith))

-- the next place is not 0, and the next digit is below ten
pub next_digit : (n : ℕ) (old new : List ℕ) (place rest : ℕ) → HasWritten n old new place rest
    → rest ≢ 0 → (0 < place / 10) × (rest / (place / 10) < 10)
next_digit n old new place rest h some =
    let next = next_place (16 - length h.digits) place rest h.place_is h.below some in
    (next.1.0, (div-lt_iff_lt-mul next.1.0).1 (omega (arith, h.below, next.1.1.0)))

pub one_more_written : (n : ℕ) (old new text : List ℕ) (place rest : ℕ)
    → HasWritten n old new place rest → rest ≢ 0
    → text ≡ new ++ (48 + rest / (place / 10)) ∷ []
    → HasWritten n old text (place / 10) (rest % (place / 10))
one_more_written n old new text place rest h some e =
    let next = next_place (16 - length h.digits) place rest h.place_is h.below some in
    let q = place / 10 in
    let q_pos : 0 < q = next.1.0 in
    let ds = h.digits in
    let d = rest / q in
    let small = (next_digit n old new place rest h some).1 in
    let long : length (ds ++ (48 + d) ∷ []) ≡ length ds + 1 = length-append ds ((48 + d) ∷ []) in
    let value_is : digits_value 10 (ds ++ (48 + d) ∷ []) ≡ digits_value 10 ds * 10 + d = digits_value_push 10 ds (48 + d) ∙ rw (digit_value-digit d small) refl in
    let whole : q * d + rest % q ≡ rest = omega arith in
    let sum = rw next.1.1.0 at h.sum in
    let left : 16 - (length ds + 1) ≡ 16 - length ds - 1 = omega arith in
    let end : length ds + 1 - 1 ≡ length ds = omega arith in
    record {
      digits = ds ++ (48 + d) ∷ [];
      text_is = e ∙ rw h.text_is (append_assoc old (46 ∷ ds) ((48 + d) ∷ []));
      all_digits = digits_push 10 ds (48 + d) h.all_digits (rw (digit_value-digit d small) small);
      short = rw long (omega (arith, next.0));
      place_is = rw (long, left) next.1.1.1;
      below = omega arith;
      sum = rw value_is (omega arith);
      last = λ none. rw (long, end, get_or_push ds (48 + d) 0 (length ds) refl) (last_digit q rest q_pos some none);
    }

digits_value-zeros : (k : ℕ) (ds : List ℕ)
    → digits_value 10 (ds ++ replicate k 48) ≡ digits_value 10 ds * 10 ^ k
digits_value-zeros zero ds = rw append-nil (omega arith)
digits_value-zeros (suc k) ds =
    let one : digits_value 10 (ds ++ 48 ∷ []) ≡ digits_value 10 ds * 10 = digits_value_push 10 ds 48 ∙ omega arith in
    let power = pow-suc 10 k in
    ap (digits_value 10) (sym (append_assoc ds (48 ∷ []) (replicate k 48))) ∙ digits_value-zeros k (ds ++ 48 ∷ []) ∙ rw (one, power) (omega arith)

-- no leading zero, except in `0`
IsWhole-decimal : (n : ℕ) → n < 10 ^ 64 → IsWhole (decimal n)
IsWhole-decimal n small =
    let steps = decimal_by_steps_wide (λ m ds. (0 < length ds) × (get_or ds 0 0 ≡ 48 → (m ≡ 0) × (length ds ≡ 1)))
    (λ m h. (omega arith, λ e. (omega arith, refl)))
    (λ m ds h p. (simp length-append (omega arith), λ e. let front : 0 < length ds = p.0 in absurd (omega (arith, (p.1 (rw (get_or-append ds ((48 + m % 10) ∷ []) 0 0 front) at e)).0))))
    n small in
    record { numeral = (decimal_is_IsNumeral_wide n small).0; first = λ e. (steps.1 e).1 }

after_point-some : (ds : List ℕ) → ds ≢ [] → after_point ds ≡ 46 ∷ ds
after_point-some [] some = absurd (some refl)
after_point-some (d ∷ ds) some = refl

-- without a remainder the whole fraction is written, if it is not 0
pub all_written : (n : ℕ) (old new : List ℕ) (place rest : ℕ) → HasWritten n old new place rest
    → rest ≡ 0 → n ≢ 0 → AppendsFraction n old new
all_written n old new place rest h none some =
    let value : digits_value 10 (filled h.digits) ≡ n
    = digits_value-zeros (16 - length h.digits) h.digits ∙ rw (sym h.place_is) (omega (arith, h.sum)) in
    record {
      digits = h.digits;
      is_fraction = record { all_digits = h.all_digits; short = h.short; last = h.last none };
      value_is = value;
      text_is = h.text_is ∙ rw (after_point-some h.digits (λ e. some (sym value ∙ rw e refl))) refl;
    }

-- the sign, the whole digits and the fraction are the decimal, after any text
pub appended : (v : ℤ) (old start text : List ℕ) → unsigned_abs v < 10 ^ 64
    → start ≡ old ++ (sign_of v ++ decimal (unsigned_abs v / 10 ^ 16))
    → AppendsFraction (unsigned_abs v % 10 ^ 16) start text → Appends (IsDecimalOf v) old text
appended v old start text small start_is h =
    let whole = decimal (unsigned_abs v / 10 ^ 16) in
    let whole_small : unsigned_abs v / 10 ^ 16 < 10 ^ 64 = omega arith in
    record {
      part = sign_of v ++ (whole ++ after_point h.digits);
      is_text = record {
        whole = whole;
        fraction = h.digits;
        is_whole = IsWhole-decimal (unsigned_abs v / 10 ^ 16) whole_small;
        is_fraction = h.is_fraction;
        text_is = refl;
        size_is = rw ((decimal_is_IsNumeral_wide (unsigned_abs v / 10 ^ 16) whole_small).1, h.value_is) (omega arith);
      };
      text_is = h.text_is ∙ rw start_is (simp append_assoc);
    }

pub only_part : (v : ℤ) (old text : List ℕ) → old ≡ [] → Appends (IsDecimalOf v) old text
    → IsDecimalOf v text
only_part v old text none h = subst (IsDecimalOf v) (sym (h.text_is ∙ rw none refl)) h.is_text
