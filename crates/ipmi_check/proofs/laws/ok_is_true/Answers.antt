use Rattle.ipmi_check.proofs.OkLemmas.{ok_is_true}
use Rattle.ipmi_check.proofs.laws.ok_is_true.Goals as goal

pub returns : goal.returns
returns c = λ lacks sought start tries s s' found ending searches ok. ok_is_true lacks sought start tries s s' found ending searches ok
