use Rattle.std.proofs.Common.{rules}
use Rattle.ipmi_raw.proofs.request.Request.command.Goals as goal

pub returns-in-Get-2 : goal.returns-in-Get-2
returns-in-Get-2 c = search rules
