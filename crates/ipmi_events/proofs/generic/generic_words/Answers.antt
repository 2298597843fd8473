use Rattle.std.proofs.Common.{rules}
use Rattle.ipmi_events.specs.Generic.{generic_words}
use Rattle.ipmi_events.proofs.generic.generic_words.Goals as goal

pub returns-else-event_type-eq-THRESHOLD_EVENT_TYPE : goal.returns-else-event_type-eq-THRESHOLD_EVENT_TYPE
unfolding generic_words
returns-else-event_type-eq-THRESHOLD_EVENT_TYPE c = search rules
