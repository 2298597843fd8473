use Rattle.std.proofs.Common.{◌∷◌, ap, ◌∙◌}
use Rattle.ipmi_image.specs.Prelude.{with_two}
use Rattle.ipmi_image.proofs.LineLemmas.{with_two_more}
use Rattle.ipmi_image.proofs.image_line.two.Goals as goal

pub returns-in-Some : goal.returns-in-Some
returns-in-Some c = λ cause line.
    let a = c.in_ok-first.first.now in
    ap (with_two cause line) (c.in_ok-first.ensures.cut ∙ ap (λ l. a ∷ l) c.in-Some.ensures.cut) ∙ with_two_more cause line a c.in-Some.field-0.0.now c.in-Some.field-0.1.now
