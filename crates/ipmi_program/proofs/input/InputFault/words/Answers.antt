use Rattle.std.proofs.Common.{rules}
use Rattle.ipmi_program.proofs.input.InputFault.words.Goals as goal

pub returns-in-NotFound : goal.returns-in-NotFound
returns-in-NotFound c = search rules
