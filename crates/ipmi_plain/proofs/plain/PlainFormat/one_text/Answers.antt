use Rattle.ipmi_plain.proofs.PlainLemmas.{one_in_codes}
use Rattle.ipmi_plain.proofs.plain.PlainFormat.one_text.Goals as goal

pub returns : goal.returns
returns c =
    one_in_codes c.one_sdr_line.ensures c.one_extended_line.ensures c.one_sdr_block.ensures c.one_sel_line.ensures c.one_sel_block.ensures
    c.one_info_block.ensures c.one_fru_text.ensures
