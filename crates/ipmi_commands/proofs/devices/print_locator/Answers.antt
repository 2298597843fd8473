use Rattle.ipmi_commands.proofs.AskLemmas.{passed}
use Rattle.ipmi_commands.proofs.DeviceLemmas.{locator_ends, locator_found, locator_unread}
use Rattle.ipmi_commands.proofs.PartLemmas.{written_spares}
use Rattle.ipmi_commands.specs.Below.{IsStateOf}
use Rattle.ipmi_commands.specs.Prelude.{shown}
use Rattle.ipmi_commands.proofs.devices.print_locator.Goals as goal

pub returns-in_err-piece-clause-ends : goal.returns-in_err-piece-clause-ends
returns-in_err-piece-clause-ends g c =
    rw (passed _ _ c.from_residual.ensures.1) (locator_ends _ _ c.in_err-piece.ensures.says)

pub returns-in_err-piece-clause-honest : goal.returns-in_err-piece-clause-honest
returns-in_err-piece-clause-honest g c = λ h.
    rw (passed _ _ c.from_residual.ensures.1) (locator_unread (g.F.Format.texts c.args.format.now) _ _ _ _ _ _ (c.in_err-piece.ensures.honest h))

pub returns-clause-honest : goal.returns-clause-honest
returns-clause-honest g c = λ h.
    locator_found (g.F.Format.texts c.args.format.now) _ _ _ _ _ _ c.in_ok-piece.piece c.write_piece.result (c.in_ok-piece.ensures.honest h) (rw c.as_slice.ensures.value at c.write_piece.ensures.piece)

pub returns-in_err-piece-clause-parts : goal.returns-in_err-piece-clause-parts
returns-in_err-piece-clause-parts g c = λ h. rw (passed _ _ c.from_residual.ensures.1) (c.in_err-piece.ensures.parts h)

pub returns-clause-parts : goal.returns-clause-parts
returns-clause-parts g c = λ h. written_spares c.args.limits.tries (IsStateOf g.C.Controller.seen) _ (shown c.in_ok-piece.piece) _ _ c.write_piece.result (rw c.as_slice.ensures.value at c.write_piece.ensures.piece)
