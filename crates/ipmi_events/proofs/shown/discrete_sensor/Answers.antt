use Rattle.std.proofs.Common.{rules}
use Rattle.ipmi_events.proofs.shown.discrete_sensor.Goals as goal

pub returns-in-Compact : goal.returns-in-Compact
returns-in-Compact c = search rules
