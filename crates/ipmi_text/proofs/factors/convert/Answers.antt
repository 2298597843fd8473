use Rattle.std.proofs.Common.{◌*ℤ◌, ◌+ℤ◌, pos, arith, FitsSigned, w8, w16, w32, to_z-of_z}
use Rattle.std.specs.Int.{w128}
use Rattle.std.proofs.lemmas.Int.{fits_signed_from_abs, fits_signed_mul, ints}
use Rattle.ipmi_text.proofs.ReadingLemmas.{unsigned_abs-mul_le, unsigned_abs-twos_complement, sum_fits, value_is}
use Rattle.ipmi_text.proofs.factors.convert.Goals as goal
use Rattle.ipmi_text.proofs.factors.convert.Goals.{After-raw_number}

m_fits : (c : After-raw_number) → FitsSigned w16 c.f.inside.m
m_fits c = omega (arith, ints, c.f.invariant.m.0, c.f.invariant.m.1)

m_fits_32 : (c : After-raw_number) → FitsSigned w32 c.f.inside.m
m_fits_32 c = omega (arith, ints, c.f.invariant.m.0, c.f.invariant.m.1)

raw_fits : (c : After-raw_number) → FitsSigned w32 c.raw_number.result
raw_fits c = fits_signed_from_abs w32 c.raw_number.result (omega (arith, c.raw_number.ensures.size))

product_fits : (c : After-raw_number) → FitsSigned w32 (c.f.inside.m *ℤ c.raw_number.result)
product_fits c = fits_signed_mul w32 c.f.inside.m c.raw_number.result 512 256 (unsigned_abs-twos_complement 512 c.f.inside.m c.f.invariant.m) c.raw_number.ensures.size (omega arith)

pub overflow_mul-f-inside : goal.overflow_mul-f-inside
overflow_mul-f-inside c = simp (to_z-of_z (m_fits c), to_z-of_z (m_fits_32 c), to_z-of_z (raw_fits c)) (product_fits c)

pub scaled-slope-requires-clause-number : goal.scaled-slope-requires-clause-number
scaled-slope-requires-clause-number c =
    simp (to_z-of_z (m_fits c), to_z-of_z (m_fits_32 c), to_z-of_z (raw_fits c), to_z-of_z (product_fits c))
    (unsigned_abs-mul_le c.f.inside.m c.raw_number.result 512 256 (unsigned_abs-twos_complement 512 c.f.inside.m c.f.invariant.m) c.raw_number.ensures.size)

pub overflow_add-f-inside : goal.overflow_add-f-inside
overflow_add-f-inside c = omega (arith, ints, c.f.invariant.k1.0, c.f.invariant.k1.1, c.f.invariant.k2.0, c.f.invariant.k2.1)

pub scaled-offset-requires-clause-low : goal.scaled-offset-requires-clause-low
scaled-offset-requires-clause-low c = omega (arith, ints, c.f.invariant.k1.0, c.f.invariant.k1.1, c.f.invariant.k2.0, c.f.invariant.k2.1)

pub scaled-offset-requires-clause-high : goal.scaled-offset-requires-clause-high
scaled-offset-requires-clause-high c = omega (arith, ints, c.f.invariant.k1.0, c.f.invariant.k1.1, c.f.invariant.k2.0, c.f.invariant.k2.1)

pub overflow_add-result : goal.overflow_add-result
overflow_add-result c =
    let slope : FitsSigned w128 c.scaled-slope.result = fits_signed_from_abs w128 c.scaled-slope.result (omega (arith, c.scaled-slope.ensures.size)) in
    let offset : FitsSigned w128 c.scaled-offset.result = fits_signed_from_abs w128 c.scaled-offset.result (omega (arith, c.scaled-offset.ensures.size)) in
    simp to_z-of_z (sum_fits c.scaled-slope.result c.scaled-offset.result c.scaled-slope.ensures.size c.scaled-offset.ensures.size)

pub returns : goal.returns
returns c =
    let b = unsigned_abs-twos_complement 512 c.f.inside.b c.f.invariant.b in
    let k1 = unsigned_abs-twos_complement 8 c.f.inside.k1 c.f.invariant.k1 in
    let k2 = unsigned_abs-twos_complement 8 c.f.inside.k2 c.f.invariant.k2 in
    let m16 : FitsSigned w16 c.f.inside.m = m_fits (goal.at.returns c).After-raw_number in
    let m32 : FitsSigned w32 c.f.inside.m = m_fits_32 (goal.at.returns c).After-raw_number in
    let x32 : FitsSigned w32 c.raw_number.result = raw_fits (goal.at.returns c).After-raw_number in
    let product : FitsSigned w32 (c.f.inside.m *ℤ c.raw_number.result) = product_fits (goal.at.returns c).After-raw_number in
    let b16 : FitsSigned w16 c.f.inside.b = omega (arith, ints) in
    let b32 : FitsSigned w32 c.f.inside.b = omega (arith, ints) in
    let k1_8 : FitsSigned w8 c.f.inside.k1 = omega (arith, ints) in
    let k1_32 : FitsSigned w32 c.f.inside.k1 = omega (arith, ints) in
    let k2_8 : FitsSigned w8 c.f.inside.k2 = omega (arith, ints) in
    let k2_32 : FitsSigned w32 c.f.inside.k2 = omega (arith, ints) in
    let e : FitsSigned w32 (c.f.inside.k2 +ℤ pos 16) = omega (arith, ints) in
    let f : FitsSigned w32 (c.f.inside.k1 +ℤ (c.f.inside.k2 +ℤ pos 16)) = omega (arith, ints) in
    let slope : FitsSigned w128 c.scaled-slope.result = fits_signed_from_abs w128 c.scaled-slope.result (omega (arith, c.scaled-slope.ensures.size)) in
    let offset : FitsSigned w128 c.scaled-offset.result = fits_signed_from_abs w128 c.scaled-offset.result (omega (arith, c.scaled-offset.ensures.size)) in
    let sum : FitsSigned w128 (c.scaled-slope.result +ℤ c.scaled-offset.result) = sum_fits c.scaled-slope.result c.scaled-offset.result c.scaled-slope.ensures.size c.scaled-offset.ensures.size in
    let slope_is = simp to_z-of_z at c.scaled-slope.ensures.value in
    let offset_is = simp to_z-of_z at c.scaled-offset.ensures.value in
    simp to_z-of_z (rw (← c.f.view_is)
    (value_is (record { format = c.f.inside.format; linear = c.f.inside.linear; m = c.f.inside.m; b = c.f.inside.b; k1 = c.f.inside.k1; k2 = c.f.inside.k2 }) c.args.raw c.raw_number.result c.scaled-slope.result c.scaled-offset.result c.if-f-eq-NO_ANALOG_READING.false c.if-f-ne-LINEAR.false c.raw_number.ensures.value slope_is offset_is))
