use Rattle.std.proofs.Common.{rules}
use Rattle.ipmi_events.proofs.event_lines.push_details_column.Goals as goal

pub returns : goal.returns
returns c = search rules
