use Rattle.std.proofs.Common.{rules}
use Rattle.ipmi_command_line.proofs.table.inventory_of.Goals as goal

pub returns-clause-value : goal.returns-clause-value
returns-clause-value c = search rules

pub returns-clause-range : goal.returns-clause-range
returns-clause-range c = search rules
