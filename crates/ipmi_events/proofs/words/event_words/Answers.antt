use Rattle.std.proofs.Common.{rules}
use Rattle.ipmi_events.specs.Words.{event_words}
use Rattle.ipmi_events.proofs.words.event_words.Goals as goal

pub returns-then-event_type-eq-SENSOR_SPECIFIC : goal.returns-then-event_type-eq-SENSOR_SPECIFIC
unfolding event_words
returns-then-event_type-eq-SENSOR_SPECIFIC c = search rules
