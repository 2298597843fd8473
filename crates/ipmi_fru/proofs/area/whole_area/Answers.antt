use Rattle.std.proofs.Common.{rules}
use Rattle.ipmi_fru.proofs.area.whole_area.Goals as goal

pub returns-clause-ok : goal.returns-clause-ok
returns-clause-ok c = search rules
