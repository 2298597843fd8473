use Rattle.std.proofs.Common.{rules}
use Rattle.ipmi_events.proofs.specific.tables_from_20.Goals as goal

pub returns : goal.returns
returns c = search rules
