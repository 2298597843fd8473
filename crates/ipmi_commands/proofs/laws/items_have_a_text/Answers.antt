use Rattle.ipmi_commands.proofs.ExistenceLemmas.{has_texts}
use Rattle.ipmi_commands.proofs.laws.items_have_a_text.Goals as goal

pub returns : goal.returns
returns g c = has_texts c.has_texts.ensures
