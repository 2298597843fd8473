use Rattle.ipmi_records.proofs.UniqueLemmas.{one_sel_block}
use Rattle.ipmi_records.proofs.laws.one_sel_block.Goals as goal

pub returns : goal.returns
returns c = one_sel_block c.one_utc_text.ensures
