-- The pieces before this one, then a part of it.
use Rattle.std.proofs.lemmas.Result.{MatchResult-from_err}
use Rattle.ipmi_output.specs.Failure.{piece_text}
use Rattle.ipmi_output.proofs.MessageLemmas.{ReceivesPart-in_item}
use Rattle.ipmi_output.proofs.message.write_pieces.Goals as goal

pub returns-in_err-write_piece : goal.returns-in_err-write_piece
returns-in_err-write_piece g c =
    MatchResult-from_err c.from_residual.result _ _ c.from_residual.ensures.0
    (λ e. ReceivesPart-in_item piece_text _ _ _ _ _ _ c.loop-piece-test.true c.loop-piece.invariant c.in_err-write_piece.ensures)
