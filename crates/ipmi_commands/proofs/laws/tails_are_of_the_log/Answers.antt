use Rattle.ipmi_commands.proofs.TailLemmas.{tails_of_log}
use Rattle.ipmi_commands.proofs.laws.tails_are_of_the_log.Goals as goal

pub returns : goal.returns
returns c = tails_of_log c.one_walk_has_an_end.ensures.unique c.the_rest_is_a_walk.ensures
