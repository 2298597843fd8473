use Rattle.ipmi_json.proofs.LineLawLemmas.{one_info}
use Rattle.ipmi_json.proofs.laws.one_info_line.Goals as goal

pub returns : goal.returns
returns c = one_info c.one_utc_text.ensures
