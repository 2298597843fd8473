use Rattle.std.proofs.Common.{rules}
use Rattle.ipmi_records.proofs.full.FullSensor.analog_format.Goals as goal

pub returns-clause-value : goal.returns-clause-value
returns-clause-value c = search rules
