use Rattle.std.proofs.Common.{◌≡◌, length}
use Rattle.ipmi_commands.specs.Prelude.{printed}
use Rattle.ipmi_commands.proofs.KeptLemmas.{LeadsKept}
use Rattle.ipmi_commands.proofs.kept.print_entries.Given as goal

abbrev pub invariant-entries : goal.invariant-entries
invariant-entries g l =
    (g.O.Sink.faults l.out ≡ g.O.Sink.faults l.fn.out)
    × LeadsKept (g.F.Format.texts l.format) l.entries l.fn.kept.entries.items l.kept.entries.items
    (printed (g.O.Sink.taken l.fn.out) l.fn.summary) (printed (g.O.Sink.taken l.out) l.summary)

-- The number of entries that are left.
abbrev pub decreases-entries : goal.decreases-entries
decreases-entries g l = length l.kept.entries.items
