use Rattle.std.proofs.Common.{FitsSigned, w8, w16, arith, to_z-of_z}
use Rattle.std.proofs.lemmas.Int.{ints}
use Rattle.ipmi_records.proofs.full.FullSensor.factors.Goals as goal

pub returns : goal.returns
returns c =
    let m_fits : FitsSigned w16 c.m.result = omega (arith, ints, c.m.ensures.range) in
    let b_fits : FitsSigned w16 c.b.result = omega (arith, ints, c.b.ensures.range) in
    let k1_fits : FitsSigned w8 c.k1.result = omega (arith, ints, c.k1.ensures.range) in
    let k2_fits : FitsSigned w8 c.k2.result = omega (arith, ints, c.k2.ensures.range) in
    let made = simp to_z-of_z at c.of_fields.ensures in
    cc
