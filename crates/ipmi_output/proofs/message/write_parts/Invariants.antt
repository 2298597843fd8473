-- The parts before this one were taken, and no call is known to have been a fault.
use Rattle.std.proofs.Common.{take}
use Rattle.ipmi_output.specs.Received.{ReceivesAll}
use Rattle.ipmi_output.specs.Failure.{joined_parts}
use Rattle.ipmi_output.proofs.message.write_parts.Given as goal

abbrev pub invariant-loop-part : goal.invariant-loop-part
invariant-loop-part g l = ReceivesAll (g.E.MessageSink.received l.fn.err) (g.E.MessageSink.received l.err) (joined_parts (take l.part-index l.parts))
