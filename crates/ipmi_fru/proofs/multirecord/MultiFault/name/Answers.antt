use Rattle.std.proofs.Common.{rules}
use Rattle.ipmi_fru.proofs.multirecord.MultiFault.name.Goals as goal

pub returns-in-DataSum : goal.returns-in-DataSum
returns-in-DataSum c = search rules
