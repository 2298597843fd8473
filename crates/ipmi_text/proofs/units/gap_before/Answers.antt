use Rattle.std.proofs.Common.{arith}
use Rattle.ipmi_text.proofs.units.gap_before.Goals as goal

pub returns-then-prints_something : goal.returns-then-prints_something
returns-then-prints_something c = grind arith
