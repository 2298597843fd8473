use Rattle.std.proofs.Common.{rules}
use Rattle.ipmi_command_line.proofs.command.command_of_task.Goals as goal

pub new-requires : goal.new-requires
new-requires c = search rules

pub returns : goal.returns
returns c = search rules
