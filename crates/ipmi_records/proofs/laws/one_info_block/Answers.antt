use Rattle.ipmi_records.proofs.UniqueLemmas.{one_info_block}
use Rattle.ipmi_records.proofs.laws.one_info_block.Goals as goal

pub returns : goal.returns
returns c = one_info_block c.one_utc_text.ensures
