use Rattle.ipmi_bus.proofs.WalkLaws.{has_walk}
use Rattle.ipmi_bus.proofs.laws.one_walk_has_an_end.Goals as goal

pub returns-clause-exists : goal.returns-clause-exists
returns-clause-exists c = has_walk
