use Rattle.ipmi_json.proofs.InventoryLawLemmas.{one_device}
use Rattle.ipmi_json.proofs.laws.one_fru_line.Goals as goal

pub returns : goal.returns
returns c = one_device c.one_decimal_of_a_value.ensures c.one_minutes_text.ensures
