use Rattle.std.proofs.lemmas.Result.{err_from_is_err_and}
use Rattle.ipmi_bus.proofs.WalkLemmas.{step_is, none_at_end, answers_step, both}
use Rattle.ipmi_bus.proofs.cursor.Cursor.step.Goals as goal

pub returns-in_err-advance : goal.returns-in_err-advance
returns-in_err-advance g c =
    let same = err_from_is_err_and c.from_residual.result c.from_residual.ensures.1 in
    rw (← c.self.view_is, same.1, same.2) (both (search (c.branch-advance.ensures, c.in_err-advance.is, step_is)) (λ after. search (after, none_at_end, answers_step _ _ _ _ _ after.2)))

pub returns-in-None : goal.returns-in-None
returns-in-None g c = rw (← c.self.view_is) (both (search (c.branch-advance.ensures, c.in_ok-advance.is, c.in-None.is, step_is)) (λ after. search (after, answers_step _ _ _ _ _ after.2)))

pub returns-in-Some : goal.returns-in-Some
returns-in-Some g c = rw (← c.self.view_is) (both (search (c.in_ok-advance.ensures, c.in-Some.is, step_is)) (λ after. search (after, none_at_end, answers_step _ _ _ _ _ after.2)))
