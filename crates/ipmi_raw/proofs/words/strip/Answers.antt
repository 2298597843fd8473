use Rattle.std.proofs.lemmas.Grind.{common_steps}
use Rattle.std.proofs.Common.{◌≡◌, ap, ◌∙◌, take, length, refl, arith}
use Rattle.std.proofs.lemmas.List.{take_at}
use Rattle.ipmi_raw.proofs.WordLemmas.{differ}
use Rattle.ipmi_raw.proofs.words.strip.Goals as goal

pub returns-else-eq : goal.returns-else-eq
returns-else-eq c rest e =
    let same : c.split_at.result.0.now ≡ c.args.front.now =
    c.split_at.ensures.front ∙ (ap (take (length c.args.front.now)) e ∙ take_at c.args.front.now rest (length c.args.front.now) refl) in
    differ c.split_at.result.0.now c.args.front.now c.eq.result c.eq.ensures c.if-eq.false same

pub returns-then-text-front : goal.returns-then-text-front
returns-then-text-front c = grind (arith, common_steps)
