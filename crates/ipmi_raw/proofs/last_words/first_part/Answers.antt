use Rattle.std.proofs.Common.{ap, take, ℕ, ◌∙◌}
use Rattle.std.proofs.lemmas.List.{take_min}
use Rattle.ipmi_raw.proofs.last_words.first_part.Goals as goal

pub returns : goal.returns
returns c = ap (λ (n : ℕ). take n c.args.text.now) c.min.ensures ∙ take_min 200 c.args.text.now
