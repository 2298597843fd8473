use Rattle.std.proofs.Common.{rules}
use Rattle.ipmi_output.proofs.failure.Failure.status.Goals as goal

pub returns-in-WriteFault : goal.returns-in-WriteFault
returns-in-WriteFault c = search rules
