use Rattle.std.proofs.Common.{rules}
use Rattle.ipmi_fru.proofs.area.AreaView.manufacturer.Goals as goal

pub returns-clause-field : goal.returns-clause-field
returns-clause-field c = search rules
