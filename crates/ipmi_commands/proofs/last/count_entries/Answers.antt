use Rattle.ipmi_commands.proofs.AskLemmas.{passed}
use Rattle.ipmi_commands.proofs.LastLemmas.{counted, counted_without_memory}
use Rattle.ipmi_commands.proofs.ListingLemmas.{fresh_room}
use Rattle.ipmi_commands.proofs.last.count_entries.Goals as goal

pub returns-in_err-cursor-clause-honest : goal.returns-in_err-cursor-clause-honest
returns-in_err-cursor-clause-honest g c = λ h. rw (passed _ _ c.from_residual.ensures.1) (counted_without_memory (g.F.Format.texts c.args.format.now) _ _ _ _ h)

pub list_records-requires-clause-room : goal.list_records-requires-clause-room
list_records-requires-clause-room g c = fresh_room c.in_ok-cursor.ensures

pub returns-clause-honest : goal.returns-clause-honest
returns-clause-honest g c = λ h. counted (g.F.Format.texts c.args.format.now) c.in_ok-cursor.ensures c.list_records.result h (c.list_records.ensures.lists.honest h)
