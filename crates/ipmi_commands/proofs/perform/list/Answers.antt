use Rattle.std.proofs.Common.{Ok, Err}
use Rattle.ipmi_commands.proofs.AskLemmas.{passed}
use Rattle.ipmi_commands.proofs.PerformLemmas.{page_runs}
use Rattle.ipmi_commands.proofs.perform.list.Goals as goal

pub returns-in_err-list_page-clause-runs : goal.returns-in_err-list_page-clause-runs
returns-in_err-list_page-clause-runs g c =
    let page = c.in_err-list_page.ensures in
    rw (passed _ _ c.from_residual.ensures.1) (page_runs (g.F.Format.texts c.args.format.now) c.args.listing.now c.args.limits.tries _ (Err c.in_err-list_page.field-0.0) page.ends page.calls page.honest)

pub returns-clause-runs : goal.returns-clause-runs
returns-clause-runs g c =
    let page = c.in_ok-list_page.ensures in page_runs (g.F.Format.texts c.args.format.now) c.args.listing.now c.args.limits.tries _ (Ok c.in_ok-list_page.field-0) page.ends page.calls page.honest

pub returns-in_err-list_page-clause-parts : goal.returns-in_err-list_page-clause-parts
returns-in_err-list_page-clause-parts g c = λ h. rw (passed _ _ c.from_residual.ensures.1) (c.in_err-list_page.ensures.parts h)
