use Rattle.std.proofs.Common.{inl, inr, arith}
use Rattle.ipmi_commands.proofs.NewLemmas.{finds_after, finds_nowhere}
use Rattle.ipmi_commands.proofs.since.entries_after.Goals as goal
use Rattle.ipmi_commands.proofs.since.entries_after.Goals.{then-entry-eq-FIRST_RECORD_ID-via-then-entry-eq-FIRST_RECORD_ID, then-entry-eq-FIRST_RECORD_ID-via-else-entry-eq-FIRST_RECORD_ID+then-entry-eq-NO_NEXT_ID}

pub returns-then-entry-eq-FIRST_RECORD_ID-clause-honest : goal.returns-then-entry-eq-FIRST_RECORD_ID-clause-honest
returns-then-entry-eq-FIRST_RECORD_ID-clause-honest g c = λ h.
    finds_nowhere c.args.entry c.args.limits.tries _ h (elim c.then-entry-eq-FIRST_RECORD_ID.branch [
      | then-entry-eq-FIRST_RECORD_ID-via-then-entry-eq-FIRST_RECORD_ID w ↦ inl (grind (arith, w.if-entry-eq-FIRST_RECORD_ID.true))
      | then-entry-eq-FIRST_RECORD_ID-via-else-entry-eq-FIRST_RECORD_ID+then-entry-eq-NO_NEXT_ID w ↦ inr (grind (arith, w.if-entry-eq-NO_NEXT_ID.true))
    ])

pub returns-in-Ok-clause-honest : goal.returns-in-Ok-clause-honest
returns-in-Ok-clause-honest g c = λ h. finds_after c.args.entry c.args.limits.tries _ _ c.in-Ok.kept c.after.result (c.in-Ok.ensures.honest h) c.after.ensures
