use Rattle.std.proofs.Common.{refl, rules}
use Rattle.ipmi_image.proofs.ScriptLemmas.{after_part, plainly}
use Rattle.ipmi_image.proofs.scripted.ScriptedController.part.Goals as goal

pub returns-in-Answers-clause-honest : goal.returns-in-Answers-clause-honest
returns-in-Answers-clause-honest c = λ honest.
    let first = c.in-Answers.ensures.turns honest in
    let a = c.part.ensures.answers (plainly c.turn.new.self.responder first.change.stays.honest) in
    after_part _ c.turn.new.self.responder c.part.new.self refl first a.change _ c.part.result c.part.new.into a

pub returns-in-Answers-clause-exact : goal.returns-in-Answers-clause-exact
returns-in-Answers-clause-exact c = search rules
