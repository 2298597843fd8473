use Rattle.std.proofs.Common.{rules}
use Rattle.ipmi_json.proofs.states.state_text.Goals as goal

pub returns-in-None : goal.returns-in-None
returns-in-None c = search rules
