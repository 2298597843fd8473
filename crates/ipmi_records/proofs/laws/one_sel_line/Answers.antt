use Rattle.ipmi_records.proofs.UniqueLemmas.{one_sel_line}
use Rattle.ipmi_records.proofs.laws.one_sel_line.Goals as goal

pub returns : goal.returns
returns c = one_sel_line c.one_utc_text.ensures
