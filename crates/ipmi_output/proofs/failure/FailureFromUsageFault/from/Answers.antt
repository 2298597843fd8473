use Rattle.std.proofs.Common.{rules}
use Rattle.ipmi_output.proofs.failure.FailureFromUsageFault.from.Goals as goal

pub returns-in-Memory : goal.returns-in-Memory
returns-in-Memory c = search rules
