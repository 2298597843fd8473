use Rattle.ipmi_fru.proofs.TextLemmas as unique
use Rattle.ipmi_fru.proofs.laws.one_fru_text.Goals as goal

pub returns : goal.returns
returns c = unique.one_fru_text c.one_decimal_of_a_value.ensures c.one_minutes_text.ensures
