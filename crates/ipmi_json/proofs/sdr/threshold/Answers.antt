use Rattle.ipmi_json.proofs.sdr.threshold.Goals as goal

pub returns : goal.returns
returns c = rw c.threshold_value.ensures at c.decimal_or_null.ensures
