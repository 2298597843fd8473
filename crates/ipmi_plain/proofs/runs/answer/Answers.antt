use Rattle.std.proofs.Common.{refl}
use Rattle.ipmi_plain.proofs.runs.answer.Goals as goal

pub returns-in-Ok-clause-answers : goal.returns-in-Ok-clause-answers
returns-in-Ok-clause-answers g c =
    let said = c.report.ensures in
    record { ending = said.ending; holds = rw (c.in-Ok.is, said.holds) c.execute_image.ensures.answers; status_is = said.status_is; message = said.message }

pub returns-in-Err-clause-answers : goal.returns-in-Err-clause-answers
returns-in-Err-clause-answers g c =
    let said = c.report-in-Err.ensures in
    record { ending = said.ending; holds = (0, 0, rw c.in-Err.is ((rw c.from.ensures at said.holds), refl)); status_is = said.status_is; message = said.message }
