-- The parts of a unit's text, and the spaces between them.
use Rattle.std.proofs.Common.{◌≡◌, ℕ, ◌/◌, ◌%◌, List, [], ◌∷◌, ◌++◌, length, ◌==◌, not, ◌&&◌, ◌||◌, if◌then◌else◌, codes, refl, append-nil, arith, filter, sym}
use Rattle.std.specs.List.{join_with_byte}
use Rattle.std.proofs.lemmas.Bool.Decides.{nat_tests}
use Rattle.ipmi_text.specs.Units.{after_space, is_not_empty, unit_name_or_code, unit_text_of}

pub not_length_zero : (xs : List ℕ) → not (length xs == 0) ≡ is_not_empty xs
not_length_zero [] = refl
not_length_zero (x ∷ xs) = grind (arith, nat_tests)

pub is_not_empty_append : (xs ys : List ℕ)
    → is_not_empty (xs ++ ys) ≡ is_not_empty xs || is_not_empty ys
is_not_empty_append [] ys = refl
is_not_empty_append (x ∷ xs) ys = refl

-- the parts that are not empty, with a space between each two
pub append_spaced : (p u r f s : List ℕ)
    → f ≡ (if is_not_empty p && is_not_empty u then codes " " else [])
    → s ≡ (if (is_not_empty p || is_not_empty u) && is_not_empty r then codes " " else [])
    → p ++ (f ++ (u ++ (s ++ r))) ≡ join_with_byte 32 (filter is_not_empty (p ∷ u ∷ r ∷ []))
append_spaced [] [] [] f s first second = rw (first, second) refl
append_spaced [] [] (z ∷ zs) f s first second = rw (first, second) refl
append_spaced [] (y ∷ ys) [] f s first second = rw (first, second, append-nil ys) refl
append_spaced [] (y ∷ ys) (z ∷ zs) f s first second = rw (first, second) refl
append_spaced (x ∷ xs) [] [] f s first second = rw (first, second, append-nil xs) refl
append_spaced (x ∷ xs) [] (z ∷ zs) f s first second = rw (first, second) refl
append_spaced (x ∷ xs) (y ∷ ys) [] f s first second = rw (first, second, append-nil ys) refl
append_spaced (x ∷ xs) (y ∷ ys) (z ∷ zs) f s first second = rw (first, second) refl

-- the text is not empty if one of the parts is not
pub is_not_empty_join_with_byte : (p u r : List ℕ)
    → is_not_empty (join_with_byte 32 (filter is_not_empty (p ∷ u ∷ r ∷ [])))
    ≡ (is_not_empty p || is_not_empty u) || is_not_empty r
is_not_empty_join_with_byte [] [] [] = refl
is_not_empty_join_with_byte [] [] (z ∷ zs) = refl
is_not_empty_join_with_byte [] (y ∷ ys) [] = refl
is_not_empty_join_with_byte [] (y ∷ ys) (z ∷ zs) = refl
is_not_empty_join_with_byte (x ∷ xs) [] [] = refl
is_not_empty_join_with_byte (x ∷ xs) [] (z ∷ zs) = refl
is_not_empty_join_with_byte (x ∷ xs) (y ∷ ys) [] = refl
is_not_empty_join_with_byte (x ∷ xs) (y ∷ ys) (z ∷ zs) = refl

-- a name without other parts
only_name : (name : List ℕ) → name ≡ join_with_byte 32
    (filter is_not_empty ([] ∷ (name ++ []) ∷ [] ∷ []))
only_name [] = refl
only_name (c ∷ name) = rw append-nil refl

-- without percent, modifier and rate only the name is printed
pub unit_text_of_plain : (units1 base modifier : ℕ) → units1 % 64 ≡ 0
    → unit_text_of units1 base modifier ≡ unit_name_or_code base
unit_text_of_plain units1 base modifier none =
    let no_percent : units1 % 2 ≡ 0 = omega arith in
    let no_modifier : units1 / 2 % 4 ≡ 0 = omega arith in
    let no_rate : units1 / 8 % 8 ≡ 0 = omega arith in
    rw (no_percent, no_modifier, no_rate) (sym (only_name (unit_name_or_code base)))

pub after_space_is : (text : List ℕ)
    → after_space text ≡ (if is_not_empty text then 32 ∷ text else [])
after_space_is [] = refl
after_space_is (c ∷ text) = refl
