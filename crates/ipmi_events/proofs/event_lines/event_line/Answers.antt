use Rattle.std.proofs.Common.{rules}
use Rattle.ipmi_events.proofs.event_lines.event_line.Goals as goal

pub returns : goal.returns
returns c = search rules
