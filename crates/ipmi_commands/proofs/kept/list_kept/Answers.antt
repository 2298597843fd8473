use Rattle.ipmi_commands.proofs.KeptLemmas.{kept_failed, kept_run}
use Rattle.ipmi_commands.proofs.kept.list_kept.Goals as goal

pub returns-in-Ok-clause-runs : goal.returns-in-Ok-clause-runs
returns-in-Ok-clause-runs g c =
    let keeps = rw c.new-kept.ensures.most at c.in-Ok.ensures.honest in
    kept_run (g.F.Format.texts c.args.format.now) c.args.entries c.args.wanted c.args.from c.args.limits.tries _ _ _ c.keep_entries.ensures.calls _ _ _ c.print_entries.ensures.prints c.print_entries.ensures.ends
    (λ h. keeps h _)

pub returns-clause-runs : goal.returns-clause-runs
returns-clause-runs g c =
    let keeps = rw c.new-kept.ensures.most at c.in-Err.ensures.honest in
    kept_failed (g.F.Format.texts c.args.format.now) c.args.entries c.args.wanted c.args.from c.args.limits.tries _ _ _ c.keep_entries.ensures.calls _ c.in-Err.failure c.in-Err.ensures.ends
    (λ h. keeps h _)
