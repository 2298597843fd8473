use Rattle.std.proofs.Common.{rules}
use Rattle.ipmi_records.proofs.column.push_raw_byte.Goals as goal

pub returns : goal.returns
returns c = search rules
