use Rattle.std.proofs.Common.{rules}
use Rattle.ipmi_events.proofs.event_lines.full_of.Goals as goal

pub returns-in-Some-Full : goal.returns-in-Some-Full
returns-in-Some-Full c = search rules
