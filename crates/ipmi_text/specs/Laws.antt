-- The statements of the laws of texts, for laws that build on them.
use Rattle.std.specs.Prelude.{◌≡◌, ◌≤◌, ℕ, ℤ, List}
use Rattle.ipmi_text.specs.Decimal.{IsDecimalOf}
use Rattle.ipmi_text.specs.Times.{IsMinutesTextOf, IsUtcTextOf}

-- a value has at most one decimal
abbrev pub DecimalIsUnique : Type 0
DecimalIsUnique = (value : ℤ) (text other : List ℕ) → IsDecimalOf value text
    → IsDecimalOf value other → text ≡ other

-- a time stamp in seconds has at most one text
abbrev pub UtcTextIsUnique : Type 0
UtcTextIsUnique = (seconds : ℕ) (text other : List ℕ) → seconds ≤ 0xffff_ffff
    → IsUtcTextOf seconds text → IsUtcTextOf seconds other → text ≡ other

-- a time stamp in minutes has at most one text
abbrev pub MinutesTextIsUnique : Type 0
MinutesTextIsUnique =
    (minutes : ℕ) (text other : List ℕ) → IsMinutesTextOf minutes text
    → IsMinutesTextOf minutes other → text ≡ other

-- a value has a decimal
abbrev pub DecimalExists : Type 0
DecimalExists = (value : ℤ) → (text : List ℕ) × IsDecimalOf value text

-- a time stamp in seconds has a text
abbrev pub UtcTextExists : Type 0
UtcTextExists = (seconds : ℕ) → (text : List ℕ) × IsUtcTextOf seconds text

-- a time stamp in minutes has a text
abbrev pub MinutesTextExists : Type 0
MinutesTextExists =
    (minutes : ℕ) → minutes ≤ 0xff_ffff → (text : List ℕ) × IsMinutesTextOf minutes text
