use Rattle.ipmi_commands.proofs.AskLemmas.{passed}
use Rattle.ipmi_commands.proofs.PerformLemmas.{inventory_found, inventory_unread}
use Rattle.ipmi_commands.proofs.PartLemmas.{written_spares}
use Rattle.ipmi_commands.specs.Below.{IsStateOf}
use Rattle.ipmi_commands.specs.Prelude.{shown}
use Rattle.ipmi_commands.proofs.perform.print_inventory.Goals as goal

pub returns-in_err-piece-clause-runs : goal.returns-in_err-piece-clause-runs
returns-in_err-piece-clause-runs g c =
    rw (passed _ _ c.from_residual.ensures.1) (inventory_unread (g.F.Format.texts c.args.format.now) c.args.detail c.args.id _ c.args.limits.tries _ _ c.inventory_in.ensures.calls _ _ c.in_err-piece.ensures.says c.in_err-piece.ensures.honest)

pub returns-clause-runs : goal.returns-clause-runs
returns-clause-runs g c =
    inventory_found (g.F.Format.texts c.args.format.now) c.args.detail c.args.id _ c.args.limits.tries _ _ c.inventory_in.ensures.calls _ _ c.in_ok-piece.piece c.write_piece.result c.in_ok-piece.ensures.shows c.in_ok-piece.ensures.honest (rw c.as_slice.ensures.value at c.write_piece.ensures.piece)

pub returns-in_err-piece-clause-parts : goal.returns-in_err-piece-clause-parts
returns-in_err-piece-clause-parts g c = λ h. rw (passed _ _ c.from_residual.ensures.1) (c.in_err-piece.ensures.parts h)

pub returns-clause-parts : goal.returns-clause-parts
returns-clause-parts g c = λ h. written_spares c.args.limits.tries (IsStateOf g.C.Controller.seen) _ (shown c.in_ok-piece.piece) _ _ c.write_piece.result (rw c.as_slice.ensures.value at c.write_piece.ensures.piece)
