use Rattle.std.proofs.Common.{◌∙◌}
use Rattle.ipmi_command_line.proofs.CommandLemmas.{begins_with_is}
use Rattle.ipmi_command_line.proofs.commands.begins_with.Goals as goal

pub returns : goal.returns
returns c = c.starts_with.ensures.value ∙ begins_with_is c.args.words.now c.args.own.now
