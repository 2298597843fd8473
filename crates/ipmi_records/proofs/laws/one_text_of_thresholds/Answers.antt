use Rattle.ipmi_records.proofs.UniqueLemmas.{one_list}
use Rattle.ipmi_records.proofs.laws.one_text_of_thresholds.Goals as goal

pub returns : goal.returns
returns c = one_list c.one_decimal_of_a_value.ensures
