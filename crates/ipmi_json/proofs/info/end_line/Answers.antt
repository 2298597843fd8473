use Rattle.ipmi_json.proofs.info.end_line.Goals as goal

pub returns : goal.returns
returns c = c.finish.ensures _ ((rw (c.from.ensures, c.text_or_null.ensures) at c.in_ok-put_members.ensures).more _ _ c.in_ok-out.ensures)
