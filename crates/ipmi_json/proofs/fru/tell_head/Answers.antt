use Rattle.ipmi_json.proofs.fru.tell_head.Goals as goal

pub returns : goal.returns
returns g c = rw (c.id_or_null.ensures, c.text_if_any.ensures, c.text_or_null.ensures) at c.put_members.ensures
