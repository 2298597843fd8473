use Rattle.std.proofs.Common.{rules}
use Rattle.ipmi_command_line.proofs.command.Command.from.Goals as goal

pub returns-clause-value : goal.returns-clause-value
returns-clause-value c = search rules
