use Rattle.std.proofs.Common.{◌≡◌, ◌-◌, ◌≤◌, length}
use Rattle.std.specs.FinSet as set
use Rattle.ipmi_commands.specs.Below.{AsksAtMost}
use Rattle.ipmi_commands.specs.Output.{Output}
use Rattle.ipmi_commands.specs.Prelude.{Tries}
use Rattle.ipmi_commands.proofs.KeptLemmas.{Keeping}
use Rattle.ipmi_commands.proofs.kept.keep_after.Given as goal

abbrev pub invariant-entries : goal.invariant-entries
invariant-entries g l =
    AsksAtMost l.fn.cursor.part (g.C.Controller.seen l.fn.ctl) (g.C.Controller.seen l.ctl)
    × (l.kept.most ≡ l.fn.kept.most)
    × (length l.kept.entries.items ≤ l.fn.kept.most)
    × ((tries : Tries) (text : Output) → l.fn.cursor.tries ≡ tries.count → Keeping (g.F.Format.texts l._format) l.selection l.fn.kept.most tries l.fn.cursor l.cursor (g.C.Controller.seen l.fn.ctl) (g.C.Controller.seen l.ctl) text l.kept.entries.items)

-- The number of ids that the cursor can still return.
abbrev pub decreases-entries : goal.decreases-entries
decreases-entries g l = 65536 - set.len l.cursor.ids
