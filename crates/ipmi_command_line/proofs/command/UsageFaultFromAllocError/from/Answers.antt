use Rattle.std.proofs.Common.{rules}
use Rattle.ipmi_command_line.proofs.command.UsageFaultFromAllocError.from.Goals as goal

pub returns : goal.returns
returns c = search rules
