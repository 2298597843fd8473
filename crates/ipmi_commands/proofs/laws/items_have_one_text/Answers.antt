use Rattle.ipmi_commands.proofs.UniqueLemmas.{one_text}
use Rattle.ipmi_commands.proofs.laws.items_have_one_text.Goals as goal

pub returns : goal.returns
returns g c = one_text c.one_text.ensures
