use Rattle.std.proofs.Common.{◌≡◌, Ok, refl, subst, sym, true}
use Rattle.ipmi_image.specs.Below.{ReserveAnswers}
use Rattle.ipmi_image.specs.Prelude.{seen_as, seen_with, with_reservation}
use Rattle.ipmi_image.proofs.WithLemmas.{answered, machine_honest, reserve_answers, reserve_with}
use Rattle.ipmi_image.proofs.with_records.WithRecordsController.reserve.Goals as goal

pub returns-in-Sel-clause-honest : goal.returns-in-Sel-clause-honest
returns-in-Sel-clause-honest g c = λ honest.
    let r = c.args.self.now.records in
    let r' = c.count_answer.new.self in
    let s = g.C.Controller.seen c.args.self.now.machine in
    let s' = g.C.Controller.seen c.reserve-answer.new.self in
    let a = subst (λ shelf. ReserveAnswers shelf c.reserve-answer.result s s') c.in-Sel.is (c.reserve-answer.ensures.honest (machine_honest r s honest)) in
    let is = answered 0 c.reserve-answer.result r r' c.count_answer.ensures.same c.count_answer.ensures.counts in
    subst (λ shelf. ReserveAnswers shelf c.count_answer.result (seen_with r s) (seen_with r' s')) (sym c.in-Sel.is)
    (rw c.count_answer.ensures.answer (reserve_with r r' s s' c.reserve-answer.result is honest a))

pub returns-in-Sdr-clause-honest : goal.returns-in-Sdr-clause-honest
returns-in-Sdr-clause-honest g c = λ honest.
    let r = c.args.self.now.records in
    let r' = c.reserve.new.self in
    let s = g.C.Controller.seen c.args.self.now.machine in
    let kept = subst (λ shelf. r' ≡ record (with_reservation shelf c.reserve.result r) { tally = r'.tally }) c.in-Sdr.is c.reserve.ensures.kept in
    let a = subst (λ shelf. ReserveAnswers shelf (Ok c.reserve.result) (seen_as true r) (seen_as true r')) c.in-Sdr.is (c.reserve.ensures.answers (record { said = refl; store = c.is_store.ensures })) in
    subst (λ shelf. ReserveAnswers shelf (Ok c.reserve.result) (seen_with r s) (seen_with r' s)) (sym c.in-Sdr.is)
    (reserve_answers r r' s c.reserve.result kept honest a)
