use Rattle.std.proofs.Common.{rules}
use Rattle.ipmi_events.proofs.states.StateWordsDisplay.fmt.Goals as goal

pub returns-in-None-clause-writes : goal.returns-in-None-clause-writes
returns-in-None-clause-writes g c = search rules
