use Rattle.std.proofs.Common.{rules}
use Rattle.ipmi_plain.proofs.runs.run_pages.Goals as goal

pub returns-clause-runs : goal.returns-clause-runs
returns-clause-runs g c = search rules
