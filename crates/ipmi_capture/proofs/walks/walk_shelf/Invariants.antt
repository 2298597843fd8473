use Rattle.std.proofs.Common.{◌-◌}
use Rattle.std.specs.FinSet as set
use Rattle.ipmi_capture.proofs.StepLemmas.{Walked}
use Rattle.ipmi_capture.proofs.walks.walk_shelf.Given as goal

abbrev pub invariant-records : goal.invariant-records
invariant-records g l =
    Walked l.shelf l.fn.asking.part l.fn.asking.tries (g.C.Controller.seen l.fn.ctl) (g.C.Controller.seen l.ctl) l.cursor l.fn.image l.image

-- The number of ids that the cursor can still return.
abbrev pub decreases-records : goal.decreases-records
decreases-records g l = 65536 - set.len l.cursor.ids
