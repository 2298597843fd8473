use Rattle.ipmi_json.proofs.sdr.sdr_raw_line.Goals as goal

pub returns : goal.returns
returns c = c.finish.ensures _ (c.in_ok-tell_raw_record.ensures.more _ _ c.in_ok-out.ensures)
