use Rattle.std.proofs.Common.{rules}
use Rattle.ipmi_program.proofs.input.InputFaultFromIoError.from.Goals as goal

pub returns-in-NotFound : goal.returns-in-NotFound
returns-in-NotFound c = search rules
