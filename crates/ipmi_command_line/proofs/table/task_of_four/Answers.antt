use Rattle.std.proofs.Common.{rules}
use Rattle.ipmi_command_line.proofs.table.task_of_four.Goals as goal

pub returns-in-sel-list-last-clause-value : goal.returns-in-sel-list-last-clause-value
returns-in-sel-list-last-clause-value c = search rules
