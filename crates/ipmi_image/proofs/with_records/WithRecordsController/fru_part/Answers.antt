use Rattle.std.proofs.Common.{length}
use Rattle.ipmi_image.proofs.WithLemmas.{answered, bytes_with, machine_honest}
use Rattle.ipmi_image.proofs.with_records.WithRecordsController.fru_part.Goals as goal

pub returns-clause-honest : goal.returns-clause-honest
returns-clause-honest g c = λ honest.
    let r = c.args.self.now.records in
    let s = g.C.Controller.seen c.args.self.now.machine in
    let a = c.fru_part-answer.ensures.honest (machine_honest r s honest) in
    let is = answered (length c.args.into.now) c.fru_part-answer.result r c.count_answer.new.self c.count_answer.ensures.same c.count_answer.ensures.counts in
    rw c.count_answer.ensures.answer (bytes_with r c.count_answer.new.self s (g.C.Controller.seen c.fru_part-answer.new.self) c.args.id c.args.offset (length c.args.into.now) c.fru_part-answer.result c.fru_part-answer.new.into is honest a)
