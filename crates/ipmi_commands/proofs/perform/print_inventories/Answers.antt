use Rattle.std.proofs.Common.{Ok, Err}
use Rattle.ipmi_commands.proofs.AskLemmas.{passed}
use Rattle.ipmi_commands.proofs.PerformLemmas.{first_run, inventories_run}
use Rattle.ipmi_commands.proofs.perform.print_inventories.Goals as goal

pub returns-in_err-print_inventory-clause-runs : goal.returns-in_err-print_inventory-clause-runs
returns-in_err-print_inventory-clause-runs g c = rw (passed _ _ c.from_residual.ensures.1) (first_run (g.F.Format.texts c.args.format.now) _ _ _ _ _ _ _ c.in_err-print_inventory.ensures.runs)

pub returns-in_err-list_page-clause-runs : goal.returns-in_err-list_page-clause-runs
returns-in_err-list_page-clause-runs g c =
    rw (passed _ _ c.from_residual-in_err-list_page.ensures.1) (inventories_run (g.F.Format.texts c.args.format.now) _ c.args.limits.tries _ _ _ _ _ _ (Err _) c.list_page.ensures.calls c.in_err-list_page.ensures.ends c.in_ok-print_inventory.ensures.runs c.in_err-list_page.ensures.honest)

pub returns-clause-runs : goal.returns-clause-runs
returns-clause-runs g c = inventories_run (g.F.Format.texts c.args.format.now) _ c.args.limits.tries _ _ _ _ _ _ (Ok _) c.list_page.ensures.calls c.in_ok-list_page.ensures.ends c.in_ok-print_inventory.ensures.runs c.in_ok-list_page.ensures.honest

pub returns-in_err-print_inventory-clause-parts : goal.returns-in_err-print_inventory-clause-parts
returns-in_err-print_inventory-clause-parts g c = λ h. rw (passed _ _ c.from_residual.ensures.1) (c.in_err-print_inventory.ensures.parts h)

pub returns-in_err-list_page-clause-parts : goal.returns-in_err-list_page-clause-parts
returns-in_err-list_page-clause-parts g c = λ h.
    rw (passed _ _ c.from_residual-in_err-list_page.ensures.1) (c.in_err-list_page.ensures.parts (c.in_ok-print_inventory.ensures.runs.why h).stays.honest)
