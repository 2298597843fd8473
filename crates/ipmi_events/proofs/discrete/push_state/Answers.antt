use Rattle.std.proofs.Common.{arith}
use Rattle.std.proofs.lemmas.Grind.{common_steps}
use Rattle.ipmi_events.specs.Discrete.{state_part}
use Rattle.ipmi_events.proofs.discrete.push_state.Goals as goal

pub returns-clause-text : goal.returns-clause-text
unfolding state_part
returns-clause-text c = grind (arith, common_steps)
