use Rattle.ipmi_commands.proofs.since.print_with.Goals as goal

pub returns-clause-prints : goal.returns-clause-prints
returns-clause-prints g c = rw (← c.in_ok-of.ensures, ← c.named-text.ensures) c.print_entries.ensures.prints
