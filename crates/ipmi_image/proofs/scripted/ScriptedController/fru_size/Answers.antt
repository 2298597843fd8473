use Rattle.std.proofs.Common.{refl}
use Rattle.ipmi_image.proofs.ScriptLemmas.{after_size, plainly}
use Rattle.ipmi_image.proofs.scripted.ScriptedController.fru_size.Goals as goal

pub returns-in-Answers-clause-honest : goal.returns-in-Answers-clause-honest
returns-in-Answers-clause-honest c = λ honest.
    let first = c.in-Answers.ensures.turns honest in
    let a = c.fru_size.ensures.answers (plainly c.turn.new.self.responder first.change.stays.honest) in
    after_size _ c.turn.new.self.responder c.fru_size.new.self refl first a.change c.args.id c.fru_size.result a
