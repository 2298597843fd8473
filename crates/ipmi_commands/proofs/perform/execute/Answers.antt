use Rattle.ipmi_commands.specs.Below.{IsStateOf}
use Rattle.ipmi_commands.proofs.PartLemmas.{entries_spare, info_spares}
use Rattle.ipmi_commands.proofs.perform.execute.Goals as goal

pub returns-in-Last-clause-parts : goal.returns-in-Last-clause-parts
returns-in-Last-clause-parts g c = λ h. entries_spare c.args.limits.tries (IsStateOf g.C.Controller.seen) _ _ c.list_last.result c.list_last.ensures.runs.ends

pub returns-in-LastKept-clause-parts : goal.returns-in-LastKept-clause-parts
returns-in-LastKept-clause-parts g c = λ h. entries_spare c.args.limits.tries (IsStateOf g.C.Controller.seen) _ _ c.list_kept.result c.list_kept.ensures.runs.ends

pub returns-in-Info-clause-parts : goal.returns-in-Info-clause-parts
returns-in-Info-clause-parts g c = λ h. info_spares c.args.limits.tries (IsStateOf g.C.Controller.seen) _ c.print_info.result c.print_info.ensures.runs.ends

pub returns-in-Tail-clause-parts : goal.returns-in-Tail-clause-parts
returns-in-Tail-clause-parts g c = λ h. entries_spare c.args.limits.tries (IsStateOf g.C.Controller.seen) _ _ c.list_tail.result c.list_tail.ensures.runs.ends
