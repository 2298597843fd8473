-- So far a line was said for each item before this one.
use Rattle.std.proofs.Common.{drop, map}
use Rattle.ipmi_output.specs.Received.{Received}
use Rattle.serdimko.specs.Captured.{said_left, SaysLines}
use Rattle.serdimko.proofs.capture.say_left.Given as goal

abbrev pub invariant-loop-left : goal.invariant-loop-left
invariant-loop-left g l =
    (end : Received) → SaysLines (map (said_left l.fn.is_unknown l.fn.name) (drop l.left-index l.fn.left)) (g.E.MessageSink.received l.err) end
    → SaysLines (map (said_left l.fn.is_unknown l.fn.name) l.fn.left) (g.E.MessageSink.received l.fn.err) end
