use Rattle.std.proofs.Common.{◌∙◌}
use Rattle.ipmi_commands.proofs.AskLemmas.{passed}
use Rattle.ipmi_plain.proofs.RunLemmas.{command_answers, of_command, unread}
use Rattle.ipmi_plain.specs.Plain.{plain_texts}
use Rattle.ipmi_plain.proofs.runs.execute_image.Goals as goal

pub returns-in_err-image-clause-answers : goal.returns-in_err-image-clause-answers
returns-in_err-image-clause-answers g c = (0, 0, rw (passed _ _ c.from_residual.ensures.1) (unread _ _ _ _ c.in_err-image.ensures.err))

pub returns-in-Some-clause-answers : goal.returns-in-Some-clause-answers
returns-in-Some-clause-answers g c =
    rw c.in_ok-image.ensures.ok (command_answers plain_texts c.args.cmd.now _ (of_command c.args.cmd.now c.task.ensures.value c.from.ensures.value c.of.ensures.value ∙ c.in-Some.is)
    c.new-summary.result c.new-summary.ensures _ _ c.execute_over.new.summary c.execute_over.result c.in_ok-image.image c.execute_over.ensures.runs)

pub returns-in-None-clause-answers : goal.returns-in-None-clause-answers
returns-in-None-clause-answers g c =
    rw c.in_ok-image.ensures.ok (command_answers plain_texts c.args.cmd.now _ (of_command c.args.cmd.now c.task.ensures.value c.from.ensures.value c.of.ensures.value ∙ c.in-None.is)
    c.new-summary.result c.new-summary.ensures _ _ c.write_image-ended.new.summary c.write_image-ended.result c.in_ok-image.image c.write_image-ended.ensures.answers)
