use Rattle.ipmi_json.proofs.LineLawLemmas.{one_entry}
use Rattle.ipmi_json.proofs.laws.one_entry_line.Goals as goal

pub returns : goal.returns
returns c = one_entry c.one_utc_text.ensures c.one_text_of_details.ensures
