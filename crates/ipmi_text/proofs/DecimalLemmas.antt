-- A value has one decimal, and a decimal has one value.
use Rattle.std.proofs.Common.{◌≡◌, ◌∙◌, ℕ, zero, suc, ◌+◌, ◌-◌, ◌*◌, ◌^◌, ◌<◌, ◌≤◌, ℤ, pos, negsuc, List, [], ◌∷◌, ◌++◌, length, drop, get_or, replicate, ap, sym, refl, arith, inl, inr, length-append, unsigned_abs}
use Rattle.std.proofs.lemmas.Bool.{cases_lt}
use Rattle.std.proofs.lemmas.Bool.Decides.{nat_tests}
use Rattle.std.proofs.lemmas.Int.Digits.{digits_value-lt}
use Rattle.std.proofs.lemmas.List.{append_cancel_right, get_or_append_left, get_or-append_right, get_or-replicate, length-replicate}
use Rattle.std.specs.Char.{digit_value}
use Rattle.std.specs.Str.Parse.{AllDigits, digits_value, digits_value_after}
use Rattle.ipmi_text.specs.Decimal.{IsDecimalOf, IsFraction, IsWhole, after_point, filled}

is_digit : (c : ℕ) → digit_value c < 10 → c ≡ 48 + digit_value c
is_digit c h = grind (arith, nat_tests)

-- equally many digits of one value are equal, and so are the numbers before them
same_digits : (m n : ℕ) (xs ys : List ℕ) → length xs ≡ length ys → AllDigits 10 xs → AllDigits 10 ys
    → digits_value_after 10 m xs ≡ digits_value_after 10 n ys → (m ≡ n) × (xs ≡ ys)
same_digits m n [] [] l h k e = (e, refl)
same_digits m n [] (y ∷ ys) l h k e = absurd (omega arith)
same_digits m n (x ∷ xs) [] l h k e = absurd (omega arith)
same_digits m n (x ∷ xs) (y ∷ ys) l h k e =
    let more = same_digits (m * 10 + digit_value x) (n * 10 + digit_value y) xs ys (omega arith) h.1 k.1 e in
    let first : x ≡ y = omega (arith, is_digit x h.0, is_digit y k.0, more.0, h.0, k.0) in
    (omega (arith, more.0, h.0, k.0), cc (first, more.1))

-- the number before fewer digits of one value is not less
no_less : (m n : ℕ) (xs ys : List ℕ) → length xs ≤ length ys → AllDigits 10 xs → AllDigits 10 ys
    → digits_value_after 10 m xs ≡ digits_value_after 10 n ys → n ≤ m
no_less m n xs [] l h k e = omega (arith, (same_digits m n xs [] (omega arith) h k e).0)
no_less m n xs (y ∷ ys) l h k e = elim (cases_lt (length xs) (length (y ∷ ys))) [
  | inl shorter ↦ let more = no_less m (n * 10 + digit_value y) xs ys (omega arith) h k.1 e in omega arith
  | inr above ↦ omega (arith, (same_digits m n xs (y ∷ ys) (omega arith) h k e).0)
]

-- whole digits of one value without a spare zero are equally many
not_longer : (xs ys : List ℕ) → IsWhole xs → IsWhole ys → digits_value 10 xs ≡ digits_value 10 ys
    → length ys ≤ length xs
not_longer xs [] h k e = omega arith
not_longer xs (y ∷ ys) h k e = elim (cases_lt (length xs) (length (y ∷ ys))) [
  | inl shorter ↦
      let none = no_less 0 (0 * 10 + digit_value y) xs ys (omega arith) h.numeral.1 k.numeral.1.1 e in
      let one : length (y ∷ ys) ≡ 1 = k.first (omega (arith, is_digit y k.numeral.1.0)) in
      absurd (omega (arith, h.numeral.0))
  | inr above ↦ above
]

same_whole : (xs ys : List ℕ) → IsWhole xs → IsWhole ys → digits_value 10 xs ≡ digits_value 10 ys
    → xs ≡ ys
same_whole xs ys h k e = (same_digits 0 0 xs ys (omega (arith, not_longer xs ys h k e, not_longer ys xs k h (sym e))) h.numeral.1 k.numeral.1 e).1

AllDigits-filled : (n : ℕ) (ds : List ℕ) → AllDigits 10 ds → AllDigits 10 (ds ++ replicate n 48)
AllDigits-filled zero [] h = tt
AllDigits-filled (suc n) [] h = (omega arith, AllDigits-filled n [] h)
AllDigits-filled n (d ∷ ds) h = (h.0, AllDigits-filled n ds h.1)

length-filled : (ds : List ℕ) → IsFraction ds → length (filled ds) ≡ 16
length-filled ds h = let short : length ds ≤ 16 = h.short in rw (length-append, length-replicate) (omega arith)

digits_value-filled : (ds : List ℕ) → IsFraction ds → digits_value 10 (filled ds) < 10 ^ 16
digits_value-filled ds h = rw (length-filled ds h) at (digits_value-lt 10 (filled ds) (AllDigits-filled (16 - length ds) ds h.all_digits))

-- a fraction that does not end with 0 is not longer than another with the same filled digits
no_longer : (xs ys : List ℕ) → IsFraction xs → IsFraction ys → filled xs ≡ filled ys
    → length ys ≤ length xs
no_longer xs ys h k e = elim (cases_lt (length xs) (length ys)) [
  | inl shorter ↦
      let last = length ys - 1 in
      let short : length ys ≤ 16 = k.short in
      let in_xs : get_or (filled xs) last 0 ≡ 48 =
      get_or-append_right xs (replicate (16 - length xs) 48) (length xs) last 0 refl
      (omega arith) ∙ get_or-replicate (16 - length xs) (last - length xs) 48 0 (omega arith) in
      let in_ys : get_or (filled ys) last 0 ≡ get_or ys last 0 = get_or_append_left ys (replicate (16 - length ys) 48) 0 last (omega arith) in
      absurd (k.last (sym in_ys ∙ rw (sym e) in_xs))
  | inr above ↦ above
]

same_fraction : (xs ys : List ℕ) → IsFraction xs → IsFraction ys
    → digits_value 10 (filled xs) ≡ digits_value 10 (filled ys) → xs ≡ ys
same_fraction xs ys h k e =
    let same : filled xs ≡ filled ys
    = (same_digits 0 0 (filled xs) (filled ys) (length-filled xs h ∙ sym (length-filled ys k)) (AllDigits-filled _ xs h.all_digits) (AllDigits-filled _ ys k.all_digits) e).1 in
    let long : length xs ≡ length ys = omega (arith, no_longer xs ys h k same, no_longer ys xs k h (sym same)) in
    append_cancel_right xs ys (replicate (16 - length ys) 48) (rw long at same)

pub one_text : (value : ℤ) (text other : List ℕ) → IsDecimalOf value text → IsDecimalOf value other
    → text ≡ other
one_text value text other h k =
    let low = digits_value-filled h.fraction h.is_fraction in
    let low_other = digits_value-filled k.fraction k.is_fraction in
    let whole = same_whole h.whole k.whole h.is_whole k.is_whole (omega arith) in
    let fraction = same_fraction h.fraction k.fraction h.is_fraction k.is_fraction (omega arith) in
    cc

-- a digit is neither a point nor a sign
not_mark : (d mark : ℕ) → digit_value mark ≡ 36 → digit_value d < 10 → d ≡ mark → ⊥
not_mark d mark none h e = let there : digit_value d ≡ 36 = rw e none in omega arith

drop-after_point : (ds : List ℕ) → drop 1 (after_point ds) ≡ ds
drop-after_point [] = refl
drop-after_point (d ∷ ds) = refl

-- a fraction does not begin with a digit
no_digit_after : (d : ℕ) (ds fraction : List ℕ) → digit_value d < 10 → d ∷ ds ≡ after_point fraction
    → ⊥
no_digit_after d ds [] h e = cc
no_digit_after d ds (f ∷ fs) h e = not_mark d 46 refl h (cc e)

-- the point separates the digits from the text after them
same_parts : (xs ys f g : List ℕ) → AllDigits 10 xs → AllDigits 10 ys
    → xs ++ after_point f ≡ ys ++ after_point g → (xs ≡ ys) × (f ≡ g)
same_parts [] [] f g h k e = (refl, sym (drop-after_point f) ∙ ap (drop 1) e ∙ drop-after_point g)
same_parts [] (y ∷ ys) f g h k e = absurd (no_digit_after y (ys ++ after_point g) f k.0 (sym e))
same_parts (x ∷ xs) [] f g h k e = absurd (no_digit_after x (xs ++ after_point f) g h.0 e)
same_parts (x ∷ xs) (y ∷ ys) f g h k e =
    let parts = same_parts xs ys f g h.1 k.1 (cc e) in
    (cc (e, parts.0), parts.1)

same_size : (value other : ℤ) (text rest : List ℕ) (h : IsDecimalOf value text)
    (k : IsDecimalOf other rest)
    → h.whole ++ after_point h.fraction ≡ k.whole ++ after_point k.fraction
    → unsigned_abs value ≡ unsigned_abs other
same_size value other text rest h k e =
    let parts = same_parts h.whole k.whole h.fraction k.fraction h.is_whole.numeral.1 k.is_whole.numeral.1 e in
    cc (h.size_is, k.size_is, parts.0, parts.1)

-- only a number below 0 has a sign
signs_differ : (xs after rest : List ℕ) → IsWhole xs → xs ++ after ≡ 45 ∷ rest → ⊥
signs_differ [] after rest h e = omega (arith, h.numeral.0)
signs_differ (x ∷ xs) after rest h e = not_mark x 45 refl h.numeral.1.0 (cc e)

pub one_value : (value other : ℤ) (text : List ℕ) → IsDecimalOf value text → IsDecimalOf other text
    → value ≡ other
one_value (pos m) (pos n) text h k = ap pos (same_size (pos m) (pos n) text text h k (sym h.text_is ∙ k.text_is))
one_value (pos m) (negsuc n) text h k = absurd (signs_differ h.whole _ _ h.is_whole (sym h.text_is ∙ k.text_is))
one_value (negsuc m) (pos n) text h k = absurd (signs_differ k.whole _ _ k.is_whole (sym k.text_is ∙ h.text_is))
one_value (negsuc m) (negsuc n) text h k =
    let sizes : suc m ≡ suc n = same_size (negsuc m) (negsuc n) text text h k (cc (h.text_is, k.text_is)) in
    ap negsuc (omega arith)
