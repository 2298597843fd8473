-- The exact decimal of a number that counts units of 10^-16.
use Rattle.std.specs.Prelude.{◌≡◌, ◌≢◌, ℕ, ◌+◌, ◌-◌, ◌*◌, ◌^◌, ◌≤◌, ℤ, pos, negsuc, List, [], ◌∷◌, ◌++◌, length, slice_index, replicate, unsigned_abs, codes}
use Rattle.std.specs.Str.Parse.{AllDigits, IsNumeral, digits_value}

-- a minus sign if the number is negative
abbrev pub sign_of : ℤ → List ℕ
sign_of (pos n) = []
sign_of (negsuc n) = codes "-"

-- a point and the digits, or nothing if there are none
abbrev pub after_point : List ℕ → List ℕ
after_point [] = []
after_point (d ∷ ds) = 46 ∷ d ∷ ds

-- at least one digit; the first is not 0 unless it is the only one
pub record IsWhole (digits : List ℕ) : Type 0 where
  pub numeral : IsNumeral 10 digits
  pub first : slice_index digits 0 ≡ 48 → length digits ≡ 1

-- at most 16 digits, the last not 0; there may be none (`slice_index` past the end is no digit)
pub record IsFraction (digits : List ℕ) : Type 0 where
  pub all_digits : AllDigits 10 digits
  pub short : length digits ≤ 16
  pub last : slice_index digits (length digits - 1) ≢ 48

-- the digits, padded on the right with zeros to 16
abbrev pub filled : List ℕ → List ℕ
filled digits = digits ++ replicate (16 - length digits) 48

-- the text is the decimal of the value: a sign, and whole and fraction digits that together give
-- its absolute value
pub record IsDecimalOf (value : ℤ) (text : List ℕ) : Type 0 where
  pub whole : List ℕ
  pub fraction : List ℕ
  pub is_whole : IsWhole whole
  pub is_fraction : IsFraction fraction
  pub text_is : text ≡ sign_of value ++ (whole ++ after_point fraction)
  pub size_is : digits_value 10 whole * 10 ^ 16 + digits_value 10 (filled fraction)
      ≡ unsigned_abs value

-- new is old followed by a point and the digits of a fraction of `units` units, or by nothing if
-- there are no digits
pub record AppendsFraction (units : ℕ) (old new : List ℕ) : Type 0 where
  pub digits : List ℕ
  pub is_fraction : IsFraction digits
  pub value_is : digits_value 10 (filled digits) ≡ units
  pub text_is : new ≡ old ++ after_point digits
