use Rattle.std.proofs.Common.{refl, sym, ◌∙◌}
use Rattle.ipmi_commands.proofs.since.print_new.Goals as goal

pub returns-then-reads_names-clause-prints : goal.returns-then-reads_names-clause-prints
returns-then-reads_names-clause-prints g c = rw (sym c.reads_names.ensures ∙ c.if-reads_names.true) c.print_named.ensures.prints

pub returns-clause-prints : goal.returns-clause-prints
returns-clause-prints g c = rw (sym c.reads_names.ensures ∙ c.if-reads_names.false) (refl, c.print_entries.ensures.ends, c.print_entries.ensures.prints)
