-- The bytes before `done` were taken, and no call is known to have been a fault.
use Rattle.std.proofs.Common.{◌≤◌, ◌-◌, length, take}
use Rattle.ipmi_output.specs.Received.{ReceivesAll}
use Rattle.ipmi_output.proofs.message_sink.offer_all.Given as goal

abbrev pub invariant-loop-done : goal.invariant-loop-done
invariant-loop-done g l =
    (l.done ≤ length l.bytes)
    × ReceivesAll (g.E.MessageSink.received l.fn.err) (g.E.MessageSink.received l.err) (take l.done l.bytes)

abbrev pub decreases-loop-done : goal.decreases-loop-done
decreases-loop-done g l = length l.bytes - l.done
