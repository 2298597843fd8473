use Rattle.ipmi_metrics.proofs.LawLemmas.{one_metrics_text}
use Rattle.ipmi_metrics.proofs.laws.one_metrics_text.Goals as goal

pub returns : goal.returns
returns c = one_metrics_text c.one_decimal_of_a_value.ensures
