use Rattle.ipmi_image.proofs.WithLemmas.{answered, machine_honest, size_with}
use Rattle.ipmi_image.proofs.with_records.WithRecordsController.fru_size.Goals as goal

pub returns-clause-honest : goal.returns-clause-honest
returns-clause-honest g c = λ honest.
    let r = c.args.self.now.records in
    let s = g.C.Controller.seen c.args.self.now.machine in
    let a = c.fru_size-answer.ensures.honest (machine_honest r s honest) in
    let is = answered 0 c.fru_size-answer.result r c.count_answer.new.self c.count_answer.ensures.same c.count_answer.ensures.counts in
    rw c.count_answer.ensures.answer (size_with r c.count_answer.new.self s (g.C.Controller.seen c.fru_size-answer.new.self) c.args.id c.fru_size-answer.result is honest a)
