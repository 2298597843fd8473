use Rattle.std.proofs.Common.{rules}
use Rattle.ipmi_output.proofs.sink.Written.into_inner.Goals as goal

pub returns-clause-writer : goal.returns-clause-writer
returns-clause-writer g c = search rules

pub returns-clause-bytes : goal.returns-clause-bytes
returns-clause-bytes g c = search rules
