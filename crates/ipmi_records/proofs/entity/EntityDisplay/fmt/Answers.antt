use Rattle.std.proofs.Common.{rules}
use Rattle.ipmi_records.proofs.entity.EntityDisplay.fmt.Goals as goal

pub returns-clause-writes : goal.returns-clause-writes
returns-clause-writes g c = search rules
