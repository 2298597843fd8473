use Rattle.ipmi_commands.proofs.MarkLemmas.{marks_back}
use Rattle.ipmi_commands.proofs.laws.marks_are_read_back.Goals as goal

pub returns : goal.returns
returns c = marks_back
