use Rattle.std.proofs.Common.{rules}
use Rattle.ipmi_records.proofs.sel.EventEntry.sensor_number.Goals as goal

pub returns : goal.returns
returns c = search rules
