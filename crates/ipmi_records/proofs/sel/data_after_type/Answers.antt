use Rattle.std.proofs.Common.{rules}
use Rattle.ipmi_records.proofs.sel.data_after_type.Goals as goal

pub returns : goal.returns
returns c = search rules
