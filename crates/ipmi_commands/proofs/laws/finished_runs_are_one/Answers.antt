use Rattle.ipmi_commands.proofs.UniqueLemmas.{one_output}
use Rattle.ipmi_commands.proofs.laws.finished_runs_are_one.Goals as goal

pub returns : goal.returns
returns g c = one_output c.items_have_one_text.ensures c.one_walk_has_an_end.ensures.exists c.what_is_found_is_a_row.ensures
