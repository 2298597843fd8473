use Rattle.std.proofs.Common.{rules}
use Rattle.ipmi_fru.proofs.header.FruFault.name.Goals as goal

pub returns-in-HeaderVersion : goal.returns-in-HeaderVersion
returns-in-HeaderVersion c = search rules
