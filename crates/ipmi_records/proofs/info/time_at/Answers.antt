use Rattle.ipmi_records.proofs.info.time_at.Goals as goal

pub returns : goal.returns
returns c = rw c.long_number_at.ensures at c.of.ensures
