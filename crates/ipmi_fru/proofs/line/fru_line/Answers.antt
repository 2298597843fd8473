use Rattle.std.proofs.Common.{rules}
use Rattle.ipmi_fru.proofs.line.fru_line.Goals as goal

pub returns-in-Err : goal.returns-in-Err
returns-in-Err c = search rules
