use Rattle.std.proofs.Common.{arith}
use Rattle.std.proofs.lemmas.Grind.{common_steps}
use Rattle.ipmi_raw.proofs.IpmitoolLemmas.{no_zero_first}
use Rattle.ipmi_raw.proofs.ipmitool.first_code.Goals as goal

pub returns-then-high-eq0 : goal.returns-then-high-eq0
returns-then-high-eq0 c =
    no_zero_first c.args.text.now c.in_ok-high.high c.in-len1-up.len_at_least c.if-high-eq0.true c.in_ok-high.ensures.1 c.in_default-strip.ensures

pub returns : goal.returns
returns c = grind (arith, common_steps)
