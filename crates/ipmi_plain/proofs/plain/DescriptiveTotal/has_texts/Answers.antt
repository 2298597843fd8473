use Rattle.ipmi_plain.proofs.PlainLemmas.{exist_in_words}
use Rattle.ipmi_plain.proofs.plain.DescriptiveTotal.has_texts.Goals as goal

pub returns : goal.returns
returns c =
    exist_in_words c.has_texts.ensures c.each_device_has_a_line.ensures.bare c.each_device_has_a_line.ensures.present
    c.each_entry_has_a_line_in_words.ensures.line c.each_record_has_a_sensor_line.ensures c.each_record_has_a_sensor_block.ensures
