use Rattle.ipmi_fru.proofs.ExistenceLemmas.{fru_text}
use Rattle.ipmi_fru.proofs.laws.each_inventory_has_a_text.Goals as goal

pub returns : goal.returns
returns c = fru_text c.each_value_has_a_decimal.ensures c.each_time_has_a_text.ensures.minutes
