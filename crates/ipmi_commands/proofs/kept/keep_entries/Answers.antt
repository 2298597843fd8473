use Rattle.ipmi_commands.specs.Output.{no_output}
use Rattle.ipmi_commands.proofs.AskLemmas.{passed}
use Rattle.ipmi_commands.proofs.KeptLemmas.{keeps_calls, keeps_entries, keeps_without_memory, tries_are}
use Rattle.ipmi_commands.proofs.ListingLemmas.{fresh_room}
use Rattle.ipmi_commands.proofs.kept.keep_entries.Goals as goal

pub keep_after-requires-clause-room : goal.keep_after-requires-clause-room
keep_after-requires-clause-room g c = fresh_room c.in_ok-cursor.ensures

pub returns-in_err-cursor-clause-honest : goal.returns-in_err-cursor-clause-honest
returns-in_err-cursor-clause-honest g c = λ h text. rw (passed _ _ c.from_residual.ensures.1) (keeps_without_memory (g.F.Format.texts c.args.format.now) _ _ _ _ _ text _ h)

pub returns-clause-calls : goal.returns-clause-calls
returns-clause-calls g c = keeps_calls (g.F.Format.texts c.args.format.now) c.in_ok-cursor.ensures (c.keep_after.ensures.keeps c.args.limits.tries no_output (tries_are c.in_ok-cursor.ensures))

pub returns-clause-honest : goal.returns-clause-honest
returns-clause-honest g c = λ h text. keeps_entries (g.F.Format.texts c.args.format.now) c.in_ok-cursor.ensures _ _ _ c.keep_after.result h (c.keep_after.ensures.keeps c.args.limits.tries text (tries_are c.in_ok-cursor.ensures))
