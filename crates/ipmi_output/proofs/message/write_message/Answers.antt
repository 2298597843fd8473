-- A part of the text before the line feed is a part of the line.
use Rattle.std.proofs.Common.{codes}
use Rattle.std.proofs.lemmas.Result.{MatchResult-from_err, MatchResult-weaker}
use Rattle.ipmi_output.proofs.MessageLemmas.{ReceivesAll-both, ReceivesPart-before, ReceivesPart-after}
use Rattle.ipmi_output.proofs.message.write_message.Goals as goal

pub returns-in_err-write_parts : goal.returns-in_err-write_parts
returns-in_err-write_parts g c =
    MatchResult-from_err c.from_residual.result _ _ c.from_residual.ensures.0
    (λ e. ReceivesPart-before _ _ _ (codes "\n") c.in_err-write_parts.ensures)

pub returns : goal.returns
returns g c =
    MatchResult-weaker c.offer_all.result c.offer_all.ensures
    (λ v all. ReceivesAll-both _ _ _ _ _ c.in_ok-write_parts.ensures all)
    (λ e part. ReceivesPart-after _ _ _ _ _ c.in_ok-write_parts.ensures part)
