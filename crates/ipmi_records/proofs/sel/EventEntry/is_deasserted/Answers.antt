use Rattle.std.proofs.Common.{rules}
use Rattle.ipmi_records.proofs.sel.EventEntry.is_deasserted.Goals as goal

pub returns : goal.returns
returns c = search rules
