use Rattle.std.proofs.Common.{Ok, Err}
use Rattle.ipmi_commands.proofs.AskLemmas.{passed}
use Rattle.ipmi_commands.proofs.ListingLemmas.{fresh_room}
use Rattle.ipmi_commands.proofs.PageLemmas.{page_by_cursor, page_without_memory}
use Rattle.ipmi_commands.proofs.WholeLemmas.{whole_none}
use Rattle.ipmi_commands.specs.Prelude.{ending_of}
use Rattle.ipmi_commands.proofs.pages.list_from.Goals as goal

pub returns-in_err-cursor-clause-honest : goal.returns-in_err-cursor-clause-honest
returns-in_err-cursor-clause-honest g c = λ some h. rw (passed _ _ c.from_residual.ensures.1) (page_without_memory (g.F.Format.texts c.args.format.now) _ _ _ _ _ _ h)

pub list_records-requires-clause-room : goal.list_records-requires-clause-room
list_records-requires-clause-room g c = fresh_room c.in_ok-cursor.ensures

pub returns-in_err-list_records-clause-honest : goal.returns-in_err-list_records-clause-honest
returns-in_err-list_records-clause-honest g c = λ some h.
    rw (passed _ _ c.from_residual-in_err-list_records.ensures.1) (page_by_cursor (g.F.Format.texts c.args.format.now) (Err _) (rw c.shelf.ensures at c.in_ok-cursor.ensures) some h (c.in_err-list_records.ensures.lists.honest h))

pub returns-clause-honest : goal.returns-clause-honest
returns-clause-honest g c = λ some h. rw c.resume_at.ensures (page_by_cursor (g.F.Format.texts c.args.format.now) (Ok _) (rw c.shelf.ensures at c.in_ok-cursor.ensures) some h (c.in_ok-list_records.ensures.lists.honest h))

pub returns-in_err-cursor-clause-whole : goal.returns-in_err-cursor-clause-whole
returns-in_err-cursor-clause-whole g c = whole_none c.args.form.now _ (ending_of c.from_residual.result)

pub returns-in_err-list_records-clause-parts : goal.returns-in_err-list_records-clause-parts
returns-in_err-list_records-clause-parts g c = λ h. rw (passed _ _ c.from_residual-in_err-list_records.ensures.1) (c.in_err-list_records.ensures.parts h)
