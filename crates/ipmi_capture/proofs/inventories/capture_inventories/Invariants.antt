use Rattle.ipmi_capture.specs.Left.{IsStateOf}
use Rattle.ipmi_capture.proofs.ReadLemmas.{IsKeeping}
use Rattle.ipmi_capture.proofs.inventories.capture_inventories.Given as goal

abbrev pub invariant-devices : goal.invariant-devices
invariant-devices g l =
    IsKeeping (IsStateOf g.C.Controller.seen) l.id l.asking.part l.asking.tries l.named.devices.items (g.C.Controller.seen l.fn.ctl) (g.C.Controller.seen l.ctl) l.fn.left.items l.left.items l.fn.image l.image
