use Rattle.std.proofs.Common.{arith, refl, to_z-of_z}
use Rattle.std.proofs.lemmas.Int.{ints}
use Rattle.ipmi_text.specs.ReadingValue.{HasRanges}
use Rattle.ipmi_text.proofs.factors.Factors.new.Goals as goal
use Rattle.ipmi_text.proofs.factors.Factors.new.Goals.{Then-is_twos_complement-4}

in_ranges : (c : Then-is_twos_complement-4) → HasRanges (record
    { format = c.args.format; linear = c.args.linear; m = c.args.m; b = c.args.b; k1 = c.args.k1; k2 = c.args.k2 })
in_ranges c =
    let m = c.is_twos_complement.ensures.0 c.if-is_twos_complement.true in
    let b = c.is_twos_complement-then-is_twos_complement.ensures.0 c.if-is_twos_complement-2.true in
    let k1 = c.is_twos_complement-then-is_twos_complement-2.ensures.0 c.if-is_twos_complement-3.true in
    let k2 = c.is_twos_complement-then-is_twos_complement-3.ensures.0 c.if-is_twos_complement-4.true in
    record {
      format = c.if-format-le-NO_ANALOG_READING.true;
      linear = c.if-linear-le-LARGEST_LINEARIZATION.true;
      m = (omega (arith, ints, c.ranges.m.sfits), omega (arith, ints, c.ranges.m.sfits));
      b = (omega (arith, ints, c.ranges.b.sfits), omega (arith, ints, c.ranges.b.sfits));
      k1 = (omega (arith, ints, c.ranges.k1.sfits), omega (arith, ints, c.ranges.k1.sfits));
      k2 = (omega (arith, ints, c.ranges.k2.sfits), omega (arith, ints, c.ranges.k2.sfits));
    }

pub of_fields-requires : goal.of_fields-requires
of_fields-requires c =
    simp (to_z-of_z c.ranges.m, to_z-of_z c.ranges.b, to_z-of_z c.ranges.k1, to_z-of_z c.ranges.k2) (in_ranges c)

pub returns-then-is_twos_complement-4-clause-some
    : goal.returns-then-is_twos_complement-4-clause-some
returns-then-is_twos_complement-4-clause-some c =
    (λ _. in_ranges (goal.at.returns-then-is_twos_complement-4-clause-some c).Then-is_twos_complement-4, λ _. refl)
