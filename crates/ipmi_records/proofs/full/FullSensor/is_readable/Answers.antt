use Rattle.std.proofs.Common.{rules}
use Rattle.ipmi_records.proofs.full.FullSensor.is_readable.Goals as goal

pub returns : goal.returns
returns c = search rules
