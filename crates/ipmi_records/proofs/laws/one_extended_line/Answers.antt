use Rattle.ipmi_records.proofs.UniqueLemmas.{one_extended_line}
use Rattle.ipmi_records.proofs.laws.one_extended_line.Goals as goal

pub returns : goal.returns
returns c = one_extended_line c.one_decimal_of_a_value.ensures
