use Rattle.std.proofs.Common.{rules}
use Rattle.ipmi_events.proofs.table.table_from_one.Goals as goal

pub returns-in_default : goal.returns-in_default
returns-in_default c = search rules
