use Rattle.std.proofs.Common.{◌-◌}
use Rattle.std.specs.FinSet as set
use Rattle.ipmi_bus.specs.Seen.{AsksAtMost}
use Rattle.ipmi_sensors.specs.Sensors.{AddsSought}
use Rattle.ipmi_sensors.proofs.SensorLemmas.{Searching}
use Rattle.ipmi_sensors.proofs.sensors.find_after.Given as goal

abbrev pub invariant-records : goal.invariant-records
invariant-records g l =
    AsksAtMost l.fn.cursor.part (g.C.Controller.seen l.fn.ctl) (g.C.Controller.seen l.ctl)
    × AddsSought l.sought l.fn.found l.found
    × Searching l.sought l.tries l.fn.cursor l.cursor (g.C.Controller.seen l.fn.ctl) (g.C.Controller.seen l.ctl) l.fn.found l.found

-- The number of ids that the cursor can still return.
abbrev pub decreases-records : goal.decreases-records
decreases-records g l = 65536 - set.len l.cursor.ids
