use Rattle.std.proofs.Common.{rules}
use Rattle.ipmi_fru.proofs.area.AreaView.fields.Goals as goal

pub returns : goal.returns
returns c = search rules
