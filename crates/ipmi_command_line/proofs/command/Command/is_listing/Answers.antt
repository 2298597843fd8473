use Rattle.std.proofs.Common.{rules}
use Rattle.ipmi_command_line.proofs.command.Command.is_listing.Goals as goal

pub returns-in_default : goal.returns-in_default
returns-in_default c = search rules
