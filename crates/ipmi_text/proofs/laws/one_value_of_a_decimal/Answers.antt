use Rattle.ipmi_text.proofs.DecimalLemmas.{one_value}
use Rattle.ipmi_text.proofs.laws.one_value_of_a_decimal.Goals as goal

pub returns : goal.returns
returns c = one_value
