use Rattle.std.proofs.Common.{rules}
use Rattle.ipmi_records.proofs.column.push_sensor.Goals as goal

pub returns-in-None : goal.returns-in-None
returns-in-None c = search rules
