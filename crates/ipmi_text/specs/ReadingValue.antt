-- Whether a reading is available (IPMI v2.0, section 35.14), and the value of a raw reading by the
-- linear formula (section 36.3), in units of 10^-16.
use Rattle.std.specs.Prelude.{ℕ, ◌≤◌, ◌/◌, ◌%◌, ◌^◌, ◌==◌, ◌&&◌, ◌||◌, nat_lt, not, Bool, if◌then◌else◌, ℤ, pos, ◌+ℤ◌, ◌-ℤ◌, ◌*ℤ◌, ◌≤ℤ◌, ◌<ℤ◌, neg_ℤ, unsigned_abs, Option, Some, None}
use Rattle.ipmi_text.specs.declared.reading.Reading.{Reading}

-- scanning is enabled (bit 6 of the flags), and the reading is not unavailable (bit 5)
abbrev pub is_available : Reading → Bool
is_available reading =
    (reading.flags / 2 ^ 6 % 2 == 1) && not (reading.flags / 2 ^ 5 % 2 == 1)

-- the factors of a sensor's formula
pub record SensorFactors : Type 0 where
  pub format : ℕ
  pub linear : ℕ
  pub m : ℤ
  pub b : ℤ
  pub k1 : ℤ
  pub k2 : ℤ

-- a number in the range of 2's complement: at least -half and below half
abbrev pub IsTwosComplement : ℕ → ℤ → Type 0
IsTwosComplement half z = (neg_ℤ (pos half) ≤ℤ z) × (z <ℤ pos half)

-- each number fits in its bits of a full sensor record: the format in 2, the linearization in 7, M
-- and B in 10 in 2's complement, and both exponents in 4 in 2's complement
pub record HasRanges (factors : SensorFactors) : Type 0 where
  pub format : factors.format ≤ 3
  pub linear : factors.linear ≤ 127
  pub m : IsTwosComplement 512 factors.m
  pub b : IsTwosComplement 512 factors.b
  pub k1 : IsTwosComplement 8 factors.k1
  pub k2 : IsTwosComplement 8 factors.k2

-- the number that a raw byte represents: unsigned (format 0), in 1's complement (1) or in 2's
-- complement (2); it is not used for format 3
abbrev pub raw_number : ℕ → ℕ → ℤ
raw_number format raw =
    if (format == 0) || nat_lt raw 128 then pos raw
    else if format == 1 then pos raw -ℤ pos 255
    else pos raw -ℤ pos 256

-- ten to a power that is not negative
abbrev pub ten_to : ℤ → ℤ
ten_to exponent = pos (10 ^ unsigned_abs exponent)

-- (M x + B 10^K1) 10^K2, in units of 10^-16; none if the sensor has no analog reading (format 3) or
-- is not linear. It is used only for factors with HasRanges, so neither exponent here is negative.
abbrev pub reading_value : SensorFactors → ℕ → Option ℤ
reading_value f raw =
    if (f.format == 3) || not (f.linear == 0) then None
    else Some ((f.m *ℤ raw_number f.format raw) *ℤ ten_to (f.k2 +ℤ pos 16) +ℤ f.b *ℤ ten_to
    (f.k1 +ℤ (f.k2 +ℤ pos 16)))
