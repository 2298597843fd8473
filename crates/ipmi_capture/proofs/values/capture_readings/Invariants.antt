use Rattle.ipmi_capture.specs.Left.{IsStateOf}
use Rattle.ipmi_capture.proofs.ReadLemmas.{IsReading}
use Rattle.ipmi_capture.proofs.values.capture_readings.Given as goal

abbrev pub invariant-places : goal.invariant-places
invariant-places g l =
    IsReading (IsStateOf g.C.Controller.seen) l.place l.asking.part l.asking.tries l.named.sensors.items (g.C.Controller.seen l.fn.ctl) (g.C.Controller.seen l.ctl) l.fn.left.items l.left.items l.fn.image l.image
