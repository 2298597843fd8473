use Rattle.std.proofs.Common.{rules}
use Rattle.ipmi_capture.proofs.left.LeftDisplay.fmt.Goals as goal

pub returns-in-Info-clause-writes : goal.returns-in-Info-clause-writes
returns-in-Info-clause-writes g c = search rules

pub returns-in-CutOff-clause-writes : goal.returns-in-CutOff-clause-writes
returns-in-CutOff-clause-writes g c = search rules
