use Rattle.std.proofs.Common.{arith}
use Rattle.std.proofs.lemmas.Grind.{common_steps}
use Rattle.ipmi_text.proofs.reading.Reading.is_available.Goals as goal

pub returns-then-self-eq1 : goal.returns-then-self-eq1
returns-then-self-eq1 c = grind (arith, common_steps)

pub returns-else-self-eq1 : goal.returns-else-self-eq1
returns-else-self-eq1 c = grind (arith, common_steps)
