use Rattle.ipmi_capture.proofs.StepLemmas.{IsAgain}
use Rattle.ipmi_capture.proofs.walks.capture_shelf.Given as goal

abbrev pub invariant-walks : goal.invariant-walks
invariant-walks g l =
    IsAgain l.shelf l.asking.part l.asking.tries l.counter (g.C.Controller.seen l.fn.ctl) (g.C.Controller.seen l.ctl) l.fn.image l.image
