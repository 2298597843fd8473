use Rattle.std.proofs.Common.{rules}
use Rattle.ipmi_capture.proofs.left.UnreadDisplay.fmt.Goals as goal

pub returns-in-GaveUp-clause-writes : goal.returns-in-GaveUp-clause-writes
returns-in-GaveUp-clause-writes g c = search rules
