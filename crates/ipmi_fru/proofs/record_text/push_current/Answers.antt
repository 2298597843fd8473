use Rattle.ipmi_fru.proofs.record_text.push_current.Goals as goal

pub returns : goal.returns
returns c = rw (c.number_at-ripple.ensures, c.number_at-least.ensures, c.number_at-most.ensures) at c.write.ensures.bytes
