use Rattle.ipmi_json.proofs.LineLawLemmas.{one_record}
use Rattle.ipmi_json.proofs.laws.one_record_line.Goals as goal

pub returns : goal.returns
returns c = one_record c.one_decimal_of_a_value.ensures
