use Rattle.std.proofs.Common.{arith, sym, ◌*◌, ◌∙◌}
use Rattle.ipmi_image.proofs.DigitLemmas.{pair_more, pair_none, pairs_done}
use Rattle.ipmi_image.proofs.digits.read_pairs.Goals as goal

pub returns-in_default : goal.returns-in_default
returns-in_default c =
    pair_none c.args.digits.now c.pairs.bytes c.pairs.place (omega (arith, c.requires, c.pairs.auto.bytes)) c.pairs.invariant (omega (arith, c.pairs-test.true, c.pairs.auto.bytes)) (sym (c.pair.ensures (2 * c.pairs.place)) ∙ c.in_default.is)

pub pairs-preserved : goal.pairs-preserved
pairs-preserved c =
    pair_more c.args.digits.now c.pairs.bytes c.pairs.place (omega (arith, c.requires, c.pairs.auto.bytes)) c.pairs.invariant c.in-Some.byte (omega (arith, c.pairs-test.true, c.pairs.auto.bytes)) (sym (c.pair.ensures (2 * c.pairs.place)) ∙ c.in-Some.is)

pub returns : goal.returns
returns c =
    pairs_done c.args.digits.now c.pairs.bytes c.pairs.place (omega (arith, c.requires, c.pairs.auto.bytes)) c.pairs.invariant (omega (arith, c.pairs-test.false, c.pairs.auto.bytes))
