use Rattle.ipmi_json.proofs.fru.fru_elsewhere_line.Goals as goal

pub returns : goal.returns
returns c = c.finish.ensures _ (c.in_ok-tell_device_elsewhere.ensures.more _ _ c.in_ok-out.ensures)
