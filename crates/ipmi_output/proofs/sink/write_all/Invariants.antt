-- The sink has taken the bytes before `done`, and no call was a fault.
use Rattle.std.proofs.Common.{◌≡◌, ◌≤◌, ◌-◌, ◌++◌, length, take}
use Rattle.ipmi_output.proofs.sink.write_all.Given as goal

abbrev pub invariant-loop-done : goal.invariant-loop-done
invariant-loop-done g l =
    (l.done ≤ length l.bytes)
    × (g.O.Sink.taken l.out ≡ g.O.Sink.taken l.fn.out ++ take l.done l.bytes)
    × (g.O.Sink.faults l.out ≡ g.O.Sink.faults l.fn.out)

abbrev pub decreases-loop-done : goal.decreases-loop-done
decreases-loop-done g l = length l.bytes - l.done
