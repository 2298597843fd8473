use Rattle.ipmi_records.proofs.ExistenceLemmas.{extended_line, sdr_block, sdr_line}
use Rattle.ipmi_records.proofs.laws.each_record_has_texts.Goals as goal

pub returns : goal.returns
returns c =
    let decimal = c.each_value_has_a_decimal.ensures in
    record { line = sdr_line decimal; extended_line = extended_line decimal; block = sdr_block decimal }
