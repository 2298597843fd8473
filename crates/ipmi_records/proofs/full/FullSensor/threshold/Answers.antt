use Rattle.std.proofs.Common.{rules}
use Rattle.ipmi_records.proofs.full.FullSensor.threshold.Goals as goal

pub returns : goal.returns
returns c = search rules
