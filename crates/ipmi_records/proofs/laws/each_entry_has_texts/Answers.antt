use Rattle.ipmi_records.proofs.ExistenceLemmas.{sel_block, sel_line}
use Rattle.ipmi_records.proofs.laws.each_entry_has_texts.Goals as goal

pub returns : goal.returns
returns c =
    let utc = c.each_time_has_a_text.ensures.utc in
    record { line = sel_line utc; block = sel_block utc }
