use Rattle.std.proofs.Common.{◌∙◌, refl}
use Rattle.ipmi_plain.proofs.RunLemmas.{command_runs, of_command}
use Rattle.ipmi_plain.specs.Plain.{plain_texts}
use Rattle.ipmi_plain.proofs.runs.execute_command.Goals as goal

pub returns-in-Some-clause-runs : goal.returns-in-Some-clause-runs
returns-in-Some-clause-runs g c =
    command_runs plain_texts c.args.cmd.now _ (of_command c.args.cmd.now c.task.ensures.value c.from.ensures.value c.of.ensures.value ∙ c.in-Some.is) c.new.result c.new.ensures _ _ c.execute.new.summary c.execute.result _ _
    (rw c.of-in-Some.ensures.tries at c.execute.ensures.runs)

pub returns-in-None-clause-runs : goal.returns-in-None-clause-runs
returns-in-None-clause-runs g c = (0, 0, rw (of_command c.args.cmd.now c.task.ensures.value c.from.ensures.value c.of.ensures.value ∙ c.in-None.is) (refl, refl, refl))
