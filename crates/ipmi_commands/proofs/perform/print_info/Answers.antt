use Rattle.ipmi_commands.proofs.AskLemmas.{passed}
use Rattle.ipmi_commands.proofs.PerformLemmas.{info_absent, info_found, info_unread}
use Rattle.ipmi_commands.proofs.perform.print_info.Goals as goal

pub returns-in_err-text-clause-runs : goal.returns-in_err-text-clause-runs
returns-in_err-text-clause-runs g c =
    rw (← c.tries.ensures, passed _ _ c.from_residual.ensures.1) (info_unread (g.F.Format.texts c.args.format.now) c.args.shelf c.tries.result _ _ c.info_text.ensures.calls _ _ c.in_err-text.ensures.says c.in_err-text.ensures.honest)

pub returns-in-Some-clause-runs : goal.returns-in-Some-clause-runs
returns-in-Some-clause-runs g c =
    rw (← c.tries.ensures) (info_found (g.F.Format.texts c.args.format.now) c.args.shelf c.tries.result _ _ c.info_text.ensures.calls _ _ c.in-Some.text c.write_piece.result (rw c.in-Some.is at c.in_ok-text.ensures.honest)
    (rw c.as_slice.ensures.value at c.write_piece.ensures.piece))

pub returns-in-None-clause-runs : goal.returns-in-None-clause-runs
returns-in-None-clause-runs g c =
    rw (← c.tries.ensures) (info_absent (g.F.Format.texts c.args.format.now) c.args.shelf c.tries.result _ _ c.info_text.ensures.calls _ (rw c.in-None.is at c.in_ok-text.ensures.says) (rw c.in-None.is at c.in_ok-text.ensures.honest))
