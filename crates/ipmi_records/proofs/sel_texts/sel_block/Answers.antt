use Rattle.std.proofs.Common.{rules}
use Rattle.ipmi_records.proofs.sel_texts.sel_block.Goals as goal

pub returns : goal.returns
returns c = search rules
