use Rattle.std.proofs.Common.{rules}
use Rattle.ipmi_output.proofs.sink.Written.new.Goals as goal

pub returns-clause-faults : goal.returns-clause-faults
returns-clause-faults g c = search rules

pub returns-clause-writer : goal.returns-clause-writer
returns-clause-writer g c = search rules
