use Rattle.std.proofs.Common.{rules}
use Rattle.ipmi_raw.proofs.request.Request.network_function.Goals as goal

pub returns-in-Reading : goal.returns-in-Reading
returns-in-Reading c = search rules
