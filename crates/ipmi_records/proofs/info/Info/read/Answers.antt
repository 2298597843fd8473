use Rattle.std.proofs.Common.{rules}
use Rattle.ipmi_records.proofs.info.Info.read.Goals as goal

pub returns : goal.returns
returns c = search rules
