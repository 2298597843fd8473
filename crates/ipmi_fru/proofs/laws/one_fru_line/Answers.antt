use Rattle.ipmi_fru.proofs.LineLemmas.{one_line}
use Rattle.ipmi_fru.proofs.laws.one_fru_line.Goals as goal

pub returns : goal.returns
returns c = one_line c.one_decimal_of_a_value.ensures c.one_minutes_text.ensures
