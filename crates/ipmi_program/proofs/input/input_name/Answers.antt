use Rattle.std.proofs.Common.{rules}
use Rattle.ipmi_program.proofs.input.input_name.Goals as goal

pub returns : goal.returns
returns c = search rules
