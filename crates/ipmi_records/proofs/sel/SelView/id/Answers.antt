use Rattle.std.proofs.Common.{rules}
use Rattle.ipmi_records.proofs.sel.SelView.id.Goals as goal

pub returns : goal.returns
returns c = search rules
