use Rattle.std.proofs.Common.{rules}
use Rattle.ipmi_records.proofs.column.has_thresholds.Goals as goal

pub returns : goal.returns
returns c = search rules
