use Rattle.std.proofs.Common.{rules}
use Rattle.ipmi_records.proofs.compact.CompactSensor.id_string.Goals as goal

pub returns : goal.returns
returns c = search rules
