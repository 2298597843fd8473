use Rattle.std.proofs.Common.{rules}
use Rattle.ipmi_text.proofs.chassis.chassis_text.Goals as goal

pub returns : goal.returns
returns c = search rules
