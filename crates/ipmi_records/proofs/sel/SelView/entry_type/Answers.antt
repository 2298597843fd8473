use Rattle.std.proofs.Common.{rules}
use Rattle.ipmi_records.proofs.sel.SelView.entry_type.Goals as goal

pub returns : goal.returns
returns c = search rules
