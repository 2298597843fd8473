use Rattle.std.proofs.Common.{rules}
use Rattle.ipmi_raw.proofs.request.Request.code_given.Goals as goal

pub returns-in_default : goal.returns-in_default
returns-in_default c = search rules
