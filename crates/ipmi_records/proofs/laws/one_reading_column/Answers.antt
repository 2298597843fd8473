use Rattle.ipmi_records.proofs.UniqueLemmas.{one_column}
use Rattle.ipmi_records.proofs.laws.one_reading_column.Goals as goal

pub returns : goal.returns
returns c = one_column c.one_decimal_of_a_value.ensures
