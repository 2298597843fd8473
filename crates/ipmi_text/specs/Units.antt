-- The names of units (IPMI v2.0, table 43-15), and how they make up a sensor's units (table 43-1,
-- sensor units 1 to 3).
use Rattle.std.specs.Prelude.{ℕ, ◌/◌, ◌%◌, ◌==◌, Bool, true, false, List, [], ◌∷◌, ◌++◌, codes, slice_get, unwrap_or, if◌then◌else◌, filter}
use Rattle.std.specs.List.{join_with_byte}
use Rattle.ipmi_text.specs.Names.{name_or_code}

-- the names of units 00h (unspecified) to 18h; later units print as their code
abbrev pub units : List (List ℕ)
units =
    [] ∷
    codes "degrees C" ∷
    codes "degrees F" ∷
    codes "degrees K" ∷
    codes "Volts" ∷
    codes "Amps" ∷
    codes "Watts" ∷
    codes "Joules" ∷
    codes "Coulombs" ∷
    codes "VA" ∷
    codes "Nits" ∷
    codes "lumen" ∷
    codes "lux" ∷
    codes "Candela" ∷
    codes "kPa" ∷
    codes "PSI" ∷
    codes "Newton" ∷
    codes "CFM" ∷
    codes "RPM" ∷
    codes "Hz" ∷
    codes "microsecond" ∷
    codes "millisecond" ∷
    codes "second" ∷
    codes "minute" ∷
    codes "hour" ∷ []

-- the name of a unit, or else `unit 0xNN`
abbrev pub unit_name_or_code : ℕ → List ℕ
unit_name_or_code code = name_or_code (slice_get units code) (codes "unit") code

-- `%` if bit 0 of units 1 is set
abbrev pub percent_part : ℕ → List ℕ
percent_part units1 = if units1 % 2 == 1 then codes "%" else []

-- the modifier, after `/` if bits 2:1 of units 1 are 01, and after `*` if they are 10
abbrev pub modifier_part : ℕ → ℕ → List ℕ
modifier_part units1 modifier =
    if units1 / 2 % 4 == 1 then codes "/" ++ unit_name_or_code modifier
    else if units1 / 2 % 4 == 2 then codes "*" ++ unit_name_or_code modifier
    else []

-- the rate, by bits 5:3 of units 1
abbrev pub rate_part : ℕ → List ℕ
rate_part units1 = unwrap_or (slice_get
    ([] ∷
    codes "per us" ∷
    codes "per ms" ∷
    codes "per s" ∷
    codes "per min" ∷
    codes "per hour" ∷
    codes "per day" ∷
    [] ∷ []) (units1 / 8 % 8)) []

abbrev pub is_not_empty : List ℕ → Bool
is_not_empty [] = false
is_not_empty (_ ∷ _) = true

-- percent, base unit with modifier, and rate: those that are not empty, joined by one space
abbrev pub unit_text_of : ℕ → ℕ → ℕ → List ℕ
unit_text_of units1 base modifier =
    join_with_byte 32 (filter is_not_empty
    (percent_part units1 ∷ (unit_name_or_code base ++ modifier_part units1 modifier)
    ∷ rate_part units1 ∷ []))

-- nothing for an empty text, otherwise a space and the text
abbrev pub after_space : List ℕ → List ℕ
after_space [] = []
after_space (c ∷ text) = 32 ∷ c ∷ text
