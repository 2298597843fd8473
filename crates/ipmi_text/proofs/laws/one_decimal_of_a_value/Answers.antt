use Rattle.ipmi_text.proofs.DecimalLemmas.{one_text}
use Rattle.ipmi_text.proofs.laws.one_decimal_of_a_value.Goals as goal

pub returns : goal.returns
returns c = one_text
