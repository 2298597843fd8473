use Rattle.ipmi_command_line.proofs.LawLemmas.{commands_are_requests}
use Rattle.ipmi_command_line.proofs.laws.a_command_is_a_request.Goals as goal

pub returns : goal.returns
returns c = commands_are_requests
