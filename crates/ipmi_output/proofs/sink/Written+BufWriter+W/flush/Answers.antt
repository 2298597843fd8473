use Rattle.std.proofs.Common.{rules}
use Rattle.ipmi_output.proofs.sink.Written+BufWriter+W.flush.Goals as goal

pub returns-else-is_err-clause-empty : goal.returns-else-is_err-clause-empty
returns-else-is_err-clause-empty g c = search rules
