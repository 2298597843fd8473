use Rattle.std.proofs.Common.{refl}
use Rattle.ipmi_image.specs.Below.{reading_of}
use Rattle.ipmi_image.proofs.ScriptLemmas.{after_value, plainly}
use Rattle.ipmi_image.proofs.scripted.ScriptedController.reading.Goals as goal

pub returns-in-Answers-clause-honest : goal.returns-in-Answers-clause-honest
returns-in-Answers-clause-honest c = λ honest.
    let first = c.in-Answers.ensures.turns honest in
    let a = c.reading.ensures.answers (plainly c.turn.new.self.responder first.change.stays.honest) in
    after_value _ c.turn.new.self.responder c.reading.new.self refl first a.change (reading_of c.args.lun c.args.number) c.reading.result a
