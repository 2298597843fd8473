use Rattle.std.proofs.Common.{rules}
use Rattle.ipmi_output.proofs.sink.write_all.Goals as goal

pub returns-then-taken-eq0-clause-ok : goal.returns-then-taken-eq0-clause-ok
returns-then-taken-eq0-clause-ok g c = search rules
