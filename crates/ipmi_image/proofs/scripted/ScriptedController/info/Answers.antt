use Rattle.std.proofs.Common.{refl}
use Rattle.ipmi_image.specs.Below.{info_of}
use Rattle.ipmi_image.proofs.ScriptLemmas.{after_value, plainly}
use Rattle.ipmi_image.proofs.scripted.ScriptedController.info.Goals as goal

pub returns-in-Answers-clause-honest : goal.returns-in-Answers-clause-honest
returns-in-Answers-clause-honest c = λ honest.
    let first = c.in-Answers.ensures.turns honest in
    let a = c.info.ensures.answers (plainly c.turn.new.self.responder first.change.stays.honest) in
    after_value _ c.turn.new.self.responder c.info.new.self refl first a.change (info_of c.args.shelf) c.info.result a
