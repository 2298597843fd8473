use Rattle.std.proofs.Common.{rules}
use Rattle.ipmi_fru.proofs.area.AreaView.language.Goals as goal

pub returns-in-Chassis : goal.returns-in-Chassis
returns-in-Chassis c = search rules
