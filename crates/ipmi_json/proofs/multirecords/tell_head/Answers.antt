use Rattle.ipmi_json.proofs.multirecords.tell_head.Goals as goal

pub returns : goal.returns
returns g c = rw (c.from.ensures, c.text_or_null.ensures, c.record_type_name.ensures) at c.put_members.ensures
