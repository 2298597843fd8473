use Rattle.std.proofs.Common.{rules}
use Rattle.ipmi_records.proofs.sel.SelView.bytes.Goals as goal

pub returns-in-Other-clause-value : goal.returns-in-Other-clause-value
returns-in-Other-clause-value c = search rules

pub returns-in-Other-clause-len : goal.returns-in-Other-clause-len
returns-in-Other-clause-len c = search rules
