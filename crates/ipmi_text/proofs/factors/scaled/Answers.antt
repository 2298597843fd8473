use Rattle.std.proofs.Common.{◌≡◌, ◌≤◌, ◌^◌, ◌*ℤ◌, arith, refl, FitsSigned, unsigned_abs, w32, of_z, to_z, to_z-of_z}
use Rattle.std.specs.Int.{w128}
use Rattle.std.proofs.lemmas.Int.{fits_signed_from_abs, fits_signed_mul, ints}
use Rattle.ipmi_text.specs.ReadingValue.{ten_to}
use Rattle.ipmi_text.proofs.ReadingLemmas.{unsigned_abs-mul_le, unsigned_abs-ten_to}
use Rattle.ipmi_text.proofs.factors.scaled.Goals as goal
use Rattle.ipmi_text.proofs.factors.scaled.Goals.{After-ten_to}

ten_to_is : (c : After-ten_to) → c.ten_to.result ≡ ten_to c.args.exponent
ten_to_is c = rw (to_z-of_z c.ranges.exponent) at c.ten_to.ensures

power_le : (c : After-ten_to) → unsigned_abs c.ten_to.result ≤ 10 ^ 30
power_le c = rw (ten_to_is c) (unsigned_abs-ten_to _ c.requires.low c.requires.high)

number_is : (c : After-ten_to) → to_z w128 (of_z w128 (to_z w32 (of_z w32 c.args.number)))
    ≡ c.args.number
number_is c = omega (arith, ints)

power_is : (c : After-ten_to) → to_z w128 (of_z w128 c.ten_to.result) ≡ c.ten_to.result
power_is c = to_z-of_z (fits_signed_from_abs w128 c.ten_to.result (omega (arith, power_le c)))

product_fits : (c : After-ten_to) → FitsSigned w128 (c.args.number *ℤ c.ten_to.result)
product_fits c = fits_signed_mul w128 c.args.number c.ten_to.result (2 ^ 17) (10 ^ 30) c.requires.number (power_le c) (omega arith)

pub overflow_mul-result : goal.overflow_mul-result
overflow_mul-result c = rw (number_is c, power_is c) (product_fits c)

pub returns-clause-value : goal.returns-clause-value
returns-clause-value c = rw (number_is c, power_is c, to_z-of_z (product_fits c), ten_to_is c) refl

pub returns-clause-size : goal.returns-clause-size
returns-clause-size c =
    rw (number_is c, power_is c, to_z-of_z (product_fits c)) (unsigned_abs-mul_le c.args.number c.ten_to.result (2 ^ 17) (10 ^ 30) c.requires.number (power_le c))
