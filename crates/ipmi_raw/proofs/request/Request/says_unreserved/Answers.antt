use Rattle.std.proofs.Common.{rules}
use Rattle.ipmi_raw.proofs.request.Request.says_unreserved.Goals as goal

pub returns-in-Reserve-eq193 : goal.returns-in-Reserve-eq193
returns-in-Reserve-eq193 c = search rules
