use Rattle.std.proofs.Common.{rules}
use Rattle.ipmi_text.proofs.decimal.fixed_text.Goals as goal

pub returns : goal.returns
returns c = search rules
