use Rattle.std.proofs.Common.{rules}
use Rattle.ipmi_records.proofs.compact.CompactSensor.sharing.Goals as goal

pub returns : goal.returns
returns c = search rules
