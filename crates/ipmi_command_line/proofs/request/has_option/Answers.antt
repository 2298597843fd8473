use Rattle.std.proofs.Common.{◌∙◌}
use Rattle.ipmi_command_line.proofs.CommandLemmas.{has_option_is}
use Rattle.ipmi_command_line.proofs.request.has_option.Goals as goal

pub returns : goal.returns
returns c = c.contains.ensures.value ∙ has_option_is c.args.options.now c.args.name.now
