use Rattle.std.proofs.Common.{rules}
use Rattle.ipmi_records.proofs.column.push_reading.Goals as goal

pub returns-in-Full : goal.returns-in-Full
returns-in-Full c = search rules

pub returns-in-Full-2 : goal.returns-in-Full-2
returns-in-Full-2 c = search rules

pub returns-in-EventOnly : goal.returns-in-EventOnly
returns-in-EventOnly c = search rules
