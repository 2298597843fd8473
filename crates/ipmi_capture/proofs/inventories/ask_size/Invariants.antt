use Rattle.std.proofs.Common.{◌-◌}
use Rattle.ipmi_bus.proofs.Asking.{IsAsking}
use Rattle.ipmi_capture.proofs.inventories.ask_size.Given as goal

abbrev pub invariant-asking : goal.invariant-asking
invariant-asking g l = IsAsking l.troubles l.tries (g.C.Controller.seen l.fn.ctl) (g.C.Controller.seen l.ctl)

abbrev pub decreases-asking : goal.decreases-asking
decreases-asking g l = l.tries - l.troubles
