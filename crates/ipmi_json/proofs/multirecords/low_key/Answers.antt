use Rattle.std.proofs.Common.{rules}
use Rattle.ipmi_json.proofs.multirecords.low_key.Goals as goal

pub returns-in-Output : goal.returns-in-Output
returns-in-Output c = search rules
