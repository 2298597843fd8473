use Rattle.ipmi_records.proofs.ExistenceLemmas.{column_of, threshold_texts}
use Rattle.ipmi_records.proofs.laws.each_record_has_columns.Goals as goal

pub returns : goal.returns
returns c =
    let decimal = c.each_value_has_a_decimal.ensures in
    record { column = column_of decimal; thresholds = threshold_texts decimal }
