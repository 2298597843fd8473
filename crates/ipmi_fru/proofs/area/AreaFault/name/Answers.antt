use Rattle.std.proofs.Common.{rules}
use Rattle.ipmi_fru.proofs.area.AreaFault.name.Goals as goal

pub returns-in-Version : goal.returns-in-Version
returns-in-Version c = search rules
