use Rattle.std.proofs.Common.{rules}
use Rattle.ipmi_command_line.proofs.words.Words.push.Goals as goal

pub returns-clause-ok : goal.returns-clause-ok
returns-clause-ok c = search rules
