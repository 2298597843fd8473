use Rattle.std.proofs.Common.{rules}
use Rattle.ipmi_plain.proofs.runs.run.Goals as goal

pub returns-clause-runs : goal.returns-clause-runs
returns-clause-runs g c = search rules
