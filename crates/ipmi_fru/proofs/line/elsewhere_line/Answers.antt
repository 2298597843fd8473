use Rattle.std.proofs.Common.{rules}
use Rattle.ipmi_fru.proofs.line.elsewhere_line.Goals as goal

pub returns : goal.returns
returns c = search rules
