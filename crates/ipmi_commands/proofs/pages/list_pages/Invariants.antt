use Rattle.std.proofs.Common.{◌≡◌, ◌+◌, ◌*◌, ◌≤◌, drop}
use Rattle.ipmi_commands.specs.Below.{AsksAtMost, IsHonest}
use Rattle.ipmi_commands.specs.Prelude.{most_on_walk, IsPlace, pages_made, printed}
use Rattle.ipmi_commands.proofs.PageLemmas.{LeadsTo}
use Rattle.ipmi_commands.proofs.pages.list_pages.Given as goal

-- The result of the remaining pages is the result of all pages.
abbrev pub invariant-pages : goal.invariant-pages
invariant-pages g l =
    (g.O.Sink.faults l.out ≡ g.O.Sink.faults l.fn.out)
    × AsksAtMost l.limits.part (g.C.Controller.seen l.fn.ctl) (g.C.Controller.seen l.ctl)
    × IsPlace l.place
    × ((g.C.Controller.seen l.ctl).calls
    + pages_made (drop l.size-index l.sizes) * most_on_walk l.form l.limits.tries
    ≤ (g.C.Controller.seen l.fn.ctl).calls + pages_made l.fn.sizes * most_on_walk l.form l.limits.tries)
    × (IsHonest (g.C.Controller.seen l.fn.ctl)
    → IsHonest (g.C.Controller.seen l.ctl)
    × LeadsTo (g.F.Format.texts l.format) l.form l.limits.tries l.fn.sizes (drop l.size-index l.sizes) l.fn.start l.place
    (g.C.Controller.seen l.fn.ctl) (g.C.Controller.seen l.ctl) (printed (g.O.Sink.taken l.fn.out) l.fn.summary) (printed (g.O.Sink.taken l.out) l.summary))
