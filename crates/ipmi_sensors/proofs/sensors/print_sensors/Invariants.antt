use Rattle.std.proofs.Common.{◌≡◌, take}
use Rattle.ipmi_commands.specs.Prelude.{printed}
use Rattle.ipmi_sensors.specs.Sensors.{PrintsBlocks}
use Rattle.ipmi_sensors.proofs.sensors.print_sensors.Given as goal

-- The blocks of the sensors so far were printed.
abbrev pub invariant-sensors : goal.invariant-sensors
invariant-sensors g l =
    (g.O.Sink.faults l.out ≡ g.O.Sink.faults l.fn.out)
    × PrintsBlocks (g.F.Format.texts l.format) l.name (take l.sensor-index l.found) (printed (g.O.Sink.taken l.fn.out) l.fn.summary) (printed (g.O.Sink.taken l.out) l.summary)
