use Rattle.std.proofs.Common.{rules}
use Rattle.ipmi_events.proofs.extensions.Field.is_of.Goals as goal

pub returns-else-self-event-2 : goal.returns-else-self-event-2
returns-else-self-event-2 c = search rules
