-- Bounds on the numbers of the linear formula.
use Rattle.std.proofs.Common.{◌≡◌, ◌≢◌, ◌==◌, true, false, Some, refl, ℕ, ◌*◌, ◌≤◌, ◌^◌, ℤ, pos, ◌*ℤ◌, ◌+ℤ◌, ◌≤ℤ◌, unsigned_abs, FitsSigned, arith, mul-le-mul}
use Rattle.std.specs.Int.{w128}
use Rattle.std.proofs.Math.Nat.{pow-le-pow_right}
use Rattle.std.proofs.lemmas.Int.{ints, unsigned_abs-mul}
use Rattle.std.proofs.lemmas.Bool.Decides.{nat_tests}
use Rattle.ipmi_text.specs.ReadingValue.{IsTwosComplement, SensorFactors, raw_number, reading_value, ten_to}

pub unsigned_abs-ten_to : (z : ℤ) → pos 0 ≤ℤ z → z ≤ℤ pos 30 → unsigned_abs (ten_to z) ≤ 10 ^ 30
unsigned_abs-ten_to z low high = let small : unsigned_abs z ≤ 30 = omega (arith, ints) in pow-le-pow_right (omega arith) small

pub unsigned_abs-twos_complement : (half : ℕ) (z : ℤ) → IsTwosComplement half z
    → unsigned_abs z ≤ half
unsigned_abs-twos_complement half z h = let a = h.0 in let b = h.1 in omega (arith, ints)

pub unsigned_abs-mul_le : (a b : ℤ) (m n : ℕ) → unsigned_abs a ≤ m → unsigned_abs b ≤ n
    → unsigned_abs (a *ℤ b) ≤ m * n
unsigned_abs-mul_le a b m n h k = rw (unsigned_abs-mul a b) (mul-le-mul h k)

pub sum_fits : (a b : ℤ) → unsigned_abs a ≤ 2 ^ 17 * 10 ^ 30 → unsigned_abs b ≤ 2 ^ 17 * 10 ^ 30
    → FitsSigned w128 (a +ℤ b)
sum_fits a b h k = omega (arith, ints)

-- the value of a linear sensor
pub value_is : (f : SensorFactors) (raw : ℕ) (x slope offset : ℤ) → f.format ≢ 3 → f.linear ≡ 0
    → x ≡ raw_number f.format raw
    → slope ≡ f.m *ℤ x *ℤ ten_to (f.k2 +ℤ pos 16)
    → offset ≡ f.b *ℤ ten_to (f.k1 +ℤ (f.k2 +ℤ pos 16))
    → Some (slope +ℤ offset) ≡ reading_value f raw
value_is f raw x slope offset analog linear x_is slope_is offset_is =
    let analog_test : (f.format == 3) ≡ false = grind (arith, nat_tests) in
    let linear_test : (f.linear == 0) ≡ true = grind (arith, nat_tests) in
    rw (analog_test, linear_test, slope_is, offset_is, x_is) refl
