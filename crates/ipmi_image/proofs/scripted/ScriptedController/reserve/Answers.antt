use Rattle.std.proofs.Common.{refl}
use Rattle.ipmi_image.proofs.ScriptLemmas.{after_reserve, plainly}
use Rattle.ipmi_image.proofs.scripted.ScriptedController.reserve.Goals as goal

pub returns-in-Answers-clause-honest : goal.returns-in-Answers-clause-honest
returns-in-Answers-clause-honest c = λ honest.
    let first = c.in-Answers.ensures.turns honest in
    let a = c.reserve.ensures.answers (plainly c.turn.new.self.responder first.change.stays.honest) in
    after_reserve _ c.turn.new.self.responder c.reserve.new.self refl first a.change c.args.shelf c.reserve.result a
