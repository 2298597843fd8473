use Rattle.std.proofs.Common.{rules}
use Rattle.ipmi_text.proofs.units.Units.prints_something.Goals as goal

pub returns-else-prints_something : goal.returns-else-prints_something
returns-else-prints_something c = search rules
