use Rattle.std.proofs.Common.{rules}
use Rattle.ipmi_records.proofs.sel.SelView.read.Goals as goal

pub returns-in_default : goal.returns-in_default
returns-in_default c = search rules
