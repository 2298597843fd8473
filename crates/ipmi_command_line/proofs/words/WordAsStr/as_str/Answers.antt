use Rattle.std.proofs.Common.{rules}
use Rattle.ipmi_command_line.proofs.words.WordAsStr.as_str.Goals as goal

pub returns : goal.returns
returns c = search rules
