use Rattle.std.proofs.Common.{rules}
use Rattle.ipmi_commands.proofs.runs.report.Goals as goal

pub returns-in-Err : goal.returns-in-Err
returns-in-Err g c = search rules
