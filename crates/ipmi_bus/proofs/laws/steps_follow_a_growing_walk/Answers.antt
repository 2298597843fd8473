use Rattle.ipmi_bus.proofs.GrowthLaws.{steps_follow_growth, steps_follow_log}
use Rattle.ipmi_bus.proofs.laws.steps_follow_a_growing_walk.Goals as goal

pub returns-clause-growth : goal.returns-clause-growth
returns-clause-growth c = steps_follow_growth

pub returns-clause-log : goal.returns-clause-log
returns-clause-log c = steps_follow_log
