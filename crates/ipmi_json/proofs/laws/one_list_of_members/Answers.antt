use Rattle.ipmi_json.proofs.InventoryLawLemmas.{one_inventory}
use Rattle.ipmi_json.proofs.LineLawLemmas.{one_entry_told, one_info_told, one_record_told}
use Rattle.ipmi_json.proofs.laws.one_list_of_members.Goals as goal

pub returns : goal.returns
returns c = record {
  record_is = one_record_told c.one_decimal_of_a_value.ensures;
  entry_is = one_entry_told c.one_utc_text.ensures c.one_text_of_details.ensures;
  info_is = one_info_told c.one_utc_text.ensures;
  device_is = one_inventory c.one_decimal_of_a_value.ensures c.one_minutes_text.ensures;
}
