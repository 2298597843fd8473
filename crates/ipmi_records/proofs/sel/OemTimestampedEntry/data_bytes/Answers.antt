use Rattle.std.proofs.Common.{rules}
use Rattle.ipmi_records.proofs.sel.OemTimestampedEntry.data_bytes.Goals as goal

pub returns : goal.returns
returns c = search rules
