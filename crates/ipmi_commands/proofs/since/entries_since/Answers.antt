use Rattle.ipmi_commands.proofs.NewLemmas.{finds_restarted}
use Rattle.ipmi_commands.proofs.since.entries_since.Goals as goal

pub returns-in-None-clause-honest : goal.returns-in-None-clause-honest
returns-in-None-clause-honest g c = λ h.
    let after = rw c.in-None.is at (c.in_ok-entries.ensures.honest h) in
    let whole = c.all_entries-in-None.ensures.honest after.ends.stays.honest in
    rw c.in-Some.is (finds_restarted c.in-Some.mark c.in-Some-entry.entry c.args.info c.args.limits.tries _ _ _ c.all_entries-in-None.result c.in-Some-entry.is after whole)
