use Rattle.std.proofs.Common.{refl, length}
use Rattle.ipmi_image.proofs.ScriptLemmas.{after_bytes, plainly}
use Rattle.ipmi_image.proofs.scripted.ScriptedController.fru_part.Goals as goal

pub returns-in-Answers-clause-honest : goal.returns-in-Answers-clause-honest
returns-in-Answers-clause-honest c = λ honest.
    let first = c.in-Answers.ensures.turns honest in
    let a = c.fru_part.ensures.answers (plainly c.turn.new.self.responder first.change.stays.honest) in
    after_bytes _ c.turn.new.self.responder c.fru_part.new.self refl first a.change c.args.id c.args.offset (length c.args.into.now) c.fru_part.result c.fru_part.new.into a
