use Rattle.ipmi_events.proofs.SignLemmas.{signs_are_true}
use Rattle.ipmi_events.proofs.laws.signs_are_true.Goals as goal

pub returns : goal.returns
returns c = signs_are_true
