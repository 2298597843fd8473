use Rattle.ipmi_bus.proofs.StepsLaws.{rest_walk}
use Rattle.ipmi_bus.proofs.laws.the_rest_is_a_walk.Goals as goal

pub returns : goal.returns
returns c = rest_walk
