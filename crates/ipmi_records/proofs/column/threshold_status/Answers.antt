use Rattle.std.proofs.Common.{rules}
use Rattle.ipmi_records.proofs.column.threshold_status.Goals as goal

pub returns-then-is_in : goal.returns-then-is_in
returns-then-is_in c = search rules

pub returns-then-is_in-3 : goal.returns-then-is_in-3
returns-then-is_in-3 c = search rules

pub returns-then-is_in-5 : goal.returns-then-is_in-5
returns-then-is_in-5 c = search rules

pub returns : goal.returns
returns c = search rules
