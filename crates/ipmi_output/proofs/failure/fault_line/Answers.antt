use Rattle.std.proofs.Common.{rules}
use Rattle.ipmi_output.proofs.failure.fault_line.Goals as goal

pub returns-in-Line : goal.returns-in-Line
returns-in-Line c = search rules
