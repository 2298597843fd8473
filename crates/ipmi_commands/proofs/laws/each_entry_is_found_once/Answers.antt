use Rattle.ipmi_commands.proofs.EachOnce.{first_finds, next_finds}
use Rattle.ipmi_commands.proofs.laws.each_entry_is_found_once.Goals as goal

pub returns-clause-first : goal.returns-clause-first
returns-clause-first c = first_finds

pub returns-clause-next : goal.returns-clause-next
returns-clause-next c = next_finds c.one_walk_has_an_end.ensures.unique c.the_rest_is_a_walk.ensures
