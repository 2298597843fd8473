use Rattle.std.proofs.Common.{arith}
use Rattle.std.proofs.lemmas.Grind.{common_steps}
use Rattle.ipmi_events.proofs.threshold.push_compared.Goals as goal

pub returns-then-not-has_value : goal.returns-then-not-has_value
returns-then-not-has_value c = grind (arith, common_steps)

pub returns-then-has_value : goal.returns-then-has_value
returns-then-has_value c = grind (arith, common_steps)

pub returns-then-has_value-2 : goal.returns-then-has_value-2
returns-then-has_value-2 c = grind (arith, common_steps)

pub returns : goal.returns
returns c = grind (arith, common_steps)
