use Rattle.ipmi_records.proofs.UniqueLemmas.{one_sdr_block}
use Rattle.ipmi_records.proofs.laws.one_sdr_block.Goals as goal

pub returns : goal.returns
returns c = one_sdr_block c.one_decimal_of_a_value.ensures
