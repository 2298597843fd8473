-- The pieces before this one were taken, and no call is known to have been a fault.
use Rattle.std.proofs.Common.{take}
use Rattle.ipmi_output.specs.Received.{ReceivesAll}
use Rattle.ipmi_output.specs.Failure.{joined_pieces}
use Rattle.ipmi_output.proofs.message.write_pieces.Given as goal

abbrev pub invariant-loop-piece : goal.invariant-loop-piece
invariant-loop-piece g l = ReceivesAll (g.E.MessageSink.received l.fn.err) (g.E.MessageSink.received l.err) (joined_pieces (take l.piece-index l.pieces))
