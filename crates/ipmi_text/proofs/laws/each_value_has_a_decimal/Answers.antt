use Rattle.ipmi_text.proofs.ExistenceLemmas.{decimal_exists}
use Rattle.ipmi_text.proofs.laws.each_value_has_a_decimal.Goals as goal

pub returns : goal.returns
returns c = decimal_exists
