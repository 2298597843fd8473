use Rattle.ipmi_commands.proofs.KeptLemmas.{line_printed}
use Rattle.ipmi_commands.proofs.kept.print_entry.Goals as goal

pub returns-clause-prints : goal.returns-clause-prints
returns-clause-prints g c =
    line_printed (g.F.Format.texts c.args.format.now) c.args.entries.now c.args.entry c.in_ok-text.text.items _ _ c.write_piece.result (rw c.read.ensures at c.in_ok-text.ensures)
    (rw c.deref.ensures.value at c.write_piece.ensures.piece)
