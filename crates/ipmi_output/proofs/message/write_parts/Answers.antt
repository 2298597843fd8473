-- The parts before this one, then a part of it.
use Rattle.std.proofs.Common.{subst}
use Rattle.std.proofs.lemmas.Result.{MatchResult-from_err}
use Rattle.ipmi_output.specs.Failure.{part_text}
use Rattle.ipmi_output.specs.Received.{ReceivesPart}
use Rattle.ipmi_output.specs.declared.message.Part.{Part}
use Rattle.ipmi_output.proofs.MessageLemmas.{ReceivesPart-in_item}
use Rattle.ipmi_output.proofs.message.write_parts.Goals as goal

pub returns-in_err-write_part : goal.returns-in_err-write_part
returns-in_err-write_part g c =
    MatchResult-from_err c.from_residual.result _ _ c.from_residual.ensures.0
    (λ e. ReceivesPart-in_item part_text _ _ _ _ _ c.part-item.result c.loop-part-test.true c.loop-part.invariant
    (subst (λ (part : Part). ReceivesPart (g.E.MessageSink.received c.loop-part.err) (g.E.MessageSink.received c.write_part.new.err) (part_text part)) c.part-item.is c.in_err-write_part.ensures))
