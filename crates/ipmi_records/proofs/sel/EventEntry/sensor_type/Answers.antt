use Rattle.std.proofs.Common.{rules}
use Rattle.ipmi_records.proofs.sel.EventEntry.sensor_type.Goals as goal

pub returns : goal.returns
returns c = search rules
