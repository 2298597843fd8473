use Rattle.std.proofs.Common.{rules}
use Rattle.ipmi_records.proofs.sel.EventEntry.generator_id.Goals as goal

pub returns : goal.returns
returns c = search rules
