use Rattle.ipmi_commands.proofs.AskLemmas.{passed}
use Rattle.ipmi_commands.proofs.LastLemmas.{after_failed, after_fewer, after_passed, starts_at}
use Rattle.ipmi_commands.proofs.ListingLemmas.{fresh_room}
use Rattle.ipmi_commands.proofs.last.list_rest.Goals as goal

pub list_records-requires-clause-room : goal.list_records-requires-clause-room
list_records-requires-clause-room g c = fresh_room c.requires.1

pub returns-in_err-list_records-clause-honest : goal.returns-in_err-list_records-clause-honest
returns-in_err-list_records-clause-honest g c = λ h.
    rw (starts_at c.requires.1, passed _ _ c.from_residual.ensures.1) (after_failed (g.F.Format.texts c.args.format.now) _ c.requires.1 _ h (c.in_err-list_records.ensures.lists.honest h))

pub returns-then-branch-passed-clause-honest : goal.returns-then-branch-passed-clause-honest
returns-then-branch-passed-clause-honest g c = λ h. rw (starts_at c.requires.1) (after_fewer (g.F.Format.texts c.args.format.now) _ c.requires.1 _ c.if-branch-passed.true h (c.in_ok-list_records.ensures.lists.honest h))

pub returns-in_err-list_records-2-clause-honest : goal.returns-in_err-list_records-2-clause-honest
returns-in_err-list_records-2-clause-honest g c = λ h.
    let passes = rw c.if-branch-passed.false at (c.in_ok-list_records.ensures.lists.honest h) in
    rw (starts_at c.requires.1, passed _ _ c.from_residual-in_err-list_records-2.ensures.1) (after_passed (g.F.Format.texts c.args.format.now) _ c.requires.1 _ _ _ _ (c.in_ok-list_records.ensures.lists.keeps.part c.requires.1.some) h passes
    (c.in_err-list_records-2.ensures.lists.honest passes.ends.stays.honest))

pub returns-clause-honest : goal.returns-clause-honest
returns-clause-honest g c = λ h.
    let passes = rw c.if-branch-passed.false at (c.in_ok-list_records.ensures.lists.honest h) in
    rw (starts_at c.requires.1) (after_passed (g.F.Format.texts c.args.format.now) _ c.requires.1 _ _ _ _ (c.in_ok-list_records.ensures.lists.keeps.part c.requires.1.some) h passes
    (c.in_ok-list_records-2.ensures.lists.honest passes.ends.stays.honest))
