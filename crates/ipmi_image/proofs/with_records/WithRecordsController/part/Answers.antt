use Rattle.std.proofs.Common.{length, subst, sym}
use Rattle.ipmi_image.specs.Below.{part_asked, PartAnswers}
use Rattle.ipmi_image.specs.Prelude.{seen_with}
use Rattle.ipmi_image.proofs.WithLemmas.{answered, machine_honest, part_with}
use Rattle.ipmi_image.proofs.with_records.WithRecordsController.part.Goals as goal

pub returns-in-Sel-clause-honest : goal.returns-in-Sel-clause-honest
returns-in-Sel-clause-honest g c = λ honest.
    let r = c.args.self.now.records in
    let r' = c.count_answer.new.self in
    let s = g.C.Controller.seen c.args.self.now.machine in
    let s' = g.C.Controller.seen c.part-answer.new.self in
    let asked = length c.args.into.now in
    let a = subst (λ shelf. PartAnswers (part_asked shelf c.args.reservation c.args.id c.args.offset asked) c.part-answer.result c.part-answer.new.into s s') c.in-Sel.is (c.part-answer.ensures.honest (machine_honest r s honest)) in
    let is = answered asked c.part-answer.result r r' c.count_answer.ensures.same c.count_answer.ensures.counts in
    subst (λ shelf. PartAnswers (part_asked shelf c.args.reservation c.args.id c.args.offset asked) c.count_answer.result c.part-answer.new.into (seen_with r s) (seen_with r' s')) (sym c.in-Sel.is)
    (rw c.count_answer.ensures.answer (part_with r r' s s' c.args.reservation c.args.id c.args.offset asked c.part-answer.result c.part-answer.new.into is honest a))
