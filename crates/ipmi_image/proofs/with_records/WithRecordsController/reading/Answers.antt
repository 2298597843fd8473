use Rattle.std.proofs.Common.{refl}
use Rattle.ipmi_image.specs.Below.{reading_of}
use Rattle.ipmi_image.proofs.WithLemmas.{answered, machine_honest, value_with}
use Rattle.ipmi_image.proofs.with_records.WithRecordsController.reading.Goals as goal

pub returns-clause-honest : goal.returns-clause-honest
returns-clause-honest g c = λ honest.
    let r = c.args.self.now.records in
    let s = g.C.Controller.seen c.args.self.now.machine in
    let a = c.reading-answer.ensures.honest (machine_honest r s honest) in
    let is = answered 0 c.reading-answer.result r c.count_answer.new.self c.count_answer.ensures.same c.count_answer.ensures.counts in
    rw c.count_answer.ensures.answer (value_with r c.count_answer.new.self s (g.C.Controller.seen c.reading-answer.new.self) (reading_of c.args.lun c.args.number) c.reading-answer.result 0 (λ store. refl) is honest a)
