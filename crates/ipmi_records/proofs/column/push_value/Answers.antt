use Rattle.std.proofs.Common.{rules}
use Rattle.ipmi_records.proofs.column.push_value.Goals as goal

pub returns-in-Some : goal.returns-in-Some
returns-in-Some c = search rules
