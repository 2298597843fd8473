use Rattle.std.proofs.Common.{rules}
use Rattle.ipmi_text.proofs.events.event_name.Goals as goal

pub returns-then-event-eq-THRESHOLD_EVENT_TYPE : goal.returns-then-event-eq-THRESHOLD_EVENT_TYPE
returns-then-event-eq-THRESHOLD_EVENT_TYPE c = search rules
