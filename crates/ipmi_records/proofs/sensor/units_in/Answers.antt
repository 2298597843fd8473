use Rattle.std.proofs.Common.{rules}
use Rattle.ipmi_records.proofs.sensor.units_in.Goals as goal

pub returns : goal.returns
returns c = search rules
