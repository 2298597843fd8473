use Rattle.ipmi_commands.proofs.AskLemmas.{passed}
use Rattle.ipmi_commands.proofs.LastLemmas.{after_without_memory, starts_at}
use Rattle.ipmi_commands.proofs.last.list_after.Goals as goal

pub returns-in_err-cursor-clause-honest : goal.returns-in_err-cursor-clause-honest
returns-in_err-cursor-clause-honest g c = λ h. rw (passed _ _ c.from_residual.ensures.1) (after_without_memory (g.F.Format.texts c.args.format.now) _ _ _ _ _ _ h)

pub list_rest-requires : goal.list_rest-requires
list_rest-requires g c = (c.args.from, c.in_ok-cursor.ensures)

pub returns-clause-honest : goal.returns-clause-honest
returns-clause-honest g c = λ h. rw (← starts_at c.in_ok-cursor.ensures) (c.list_rest.ensures.honest h)
