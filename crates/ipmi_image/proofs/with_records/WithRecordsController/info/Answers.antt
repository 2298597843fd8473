use Rattle.ipmi_image.proofs.WithLemmas.{answered, info_with, machine_honest}
use Rattle.ipmi_image.proofs.with_records.WithRecordsController.info.Goals as goal

pub returns-clause-honest : goal.returns-clause-honest
returns-clause-honest g c = λ honest.
    let r = c.args.self.now.records in
    let s = g.C.Controller.seen c.args.self.now.machine in
    let a = c.info-answer.ensures.honest (machine_honest r s honest) in
    let is = answered 0 c.info-answer.result r c.count_answer.new.self c.count_answer.ensures.same c.count_answer.ensures.counts in
    rw c.count_answer.ensures.answer (info_with r c.count_answer.new.self s (g.C.Controller.seen c.info-answer.new.self) c.args.shelf c.info-answer.result is honest a)
