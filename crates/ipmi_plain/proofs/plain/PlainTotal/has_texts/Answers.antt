use Rattle.ipmi_plain.proofs.PlainLemmas.{exist_in_codes}
use Rattle.ipmi_plain.proofs.plain.PlainTotal.has_texts.Goals as goal

pub returns : goal.returns
returns c =
    exist_in_codes c.each_record_has_texts.ensures.line c.each_record_has_texts.ensures.extended_line c.each_record_has_texts.ensures.block
    c.each_entry_has_texts.ensures.line c.each_entry_has_texts.ensures.block c.each_info_has_a_block.ensures c.each_inventory_has_a_text.ensures
