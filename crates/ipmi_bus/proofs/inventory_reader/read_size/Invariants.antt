use Rattle.std.proofs.Common.{◌-◌, ℕ}
use Rattle.ipmi_bus.specs.Prelude.{IsStateOf, NoneCame}
use Rattle.ipmi_bus.proofs.Asking.{IsAsking}
use Rattle.ipmi_bus.proofs.inventory_reader.read_size.Given as goal

abbrev pub invariant-asking : goal.invariant-asking
invariant-asking g l = IsAsking l.troubles l.tries (g.C.Controller.seen l.fn.ctl) (g.C.Controller.seen l.ctl)
    × ((calls : ℕ) × NoneCame (IsStateOf g.C.Controller.seen) calls (g.C.Controller.seen l.fn.ctl) (g.C.Controller.seen l.ctl))

abbrev pub decreases-asking : goal.decreases-asking
decreases-asking g l = l.tries - l.troubles
