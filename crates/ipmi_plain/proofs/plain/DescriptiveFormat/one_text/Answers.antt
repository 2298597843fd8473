use Rattle.ipmi_plain.proofs.PlainLemmas.{one_in_words}
use Rattle.ipmi_plain.proofs.plain.DescriptiveFormat.one_text.Goals as goal

pub returns : goal.returns
returns c =
    one_in_words c.one_text.ensures c.one_fru_line.ensures c.one_event_in_words.ensures c.one_sensor_line.ensures c.one_sensor_block.ensures
