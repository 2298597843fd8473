use Rattle.std.proofs.Common.{rules}
use Rattle.ipmi_text.proofs.capacity.text_with_capacity.Goals as goal

pub returns : goal.returns
returns g c = search rules
