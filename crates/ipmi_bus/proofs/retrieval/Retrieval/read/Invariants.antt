use Rattle.ipmi_bus.specs.Prelude.{largest_len, begun}
use Rattle.ipmi_bus.specs.Retrieval.{calls_left}
use Rattle.ipmi_bus.proofs.SinceLemmas.{Since}
use Rattle.ipmi_bus.proofs.retrieval.Retrieval.read.Given as goal

abbrev pub invariant-reading : goal.invariant-reading
invariant-reading g l = Since (begun l.fn.self l.id) l.self (g.C.Controller.seen l.fn.ctl) (g.C.Controller.seen l.ctl)

abbrev pub decreases-reading : goal.decreases-reading
decreases-reading g l = calls_left (largest_len l.fn.self.shelf) l.self
