use Rattle.std.proofs.Common.{rules}
use Rattle.ipmi_records.proofs.sel_texts.event_line.Goals as goal

pub returns : goal.returns
returns c = search rules
