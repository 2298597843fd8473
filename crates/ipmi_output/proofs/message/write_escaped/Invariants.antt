-- The bytes before this one were taken, and no call is known to have been a fault.
use Rattle.std.proofs.Common.{take}
use Rattle.ipmi_output.specs.Received.{ReceivesAll}
use Rattle.ipmi_output.specs.Failure.{escaped_name}
use Rattle.ipmi_output.proofs.message.write_escaped.Given as goal

abbrev pub invariant-loop-byte : goal.invariant-loop-byte
invariant-loop-byte g l = ReceivesAll (g.E.MessageSink.received l.fn.err) (g.E.MessageSink.received l.err) (escaped_name (take l.byte-index l.name))
