use Rattle.ipmi_records.proofs.ExistenceLemmas.{info_block}
use Rattle.ipmi_records.proofs.laws.each_info_has_a_block.Goals as goal

pub returns : goal.returns
returns c = info_block c.each_time_has_a_text.ensures.utc
