use Rattle.std.proofs.Common.{rules}
use Rattle.ipmi_fru.proofs.area.AreaView.head.Goals as goal

pub returns-clause-bytes : goal.returns-clause-bytes
returns-clause-bytes c = search rules
