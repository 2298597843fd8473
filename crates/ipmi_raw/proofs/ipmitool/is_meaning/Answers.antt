use Rattle.std.proofs.Common.{◌≡◌, ◌++◌, List, ℕ, Some, ap, ◌∙◌}
use Rattle.std.proofs.lemmas.Bool.Decides.{Decides-eqb}
use Rattle.std.proofs.lemmas.Slice.Eq.{strip_suffix_is}
use Rattle.ipmi_raw.proofs.IpmitoolLemmas.{meaning_or_none}
use Rattle.ipmi_raw.proofs.ipmitool.is_meaning.Goals as goal

pub returns : goal.returns
returns c =
    let whole : c.args.text.now ≡ c.in-Some.meaning.now ++ c.ending.result.now =
    strip_suffix_is Decides-eqb c.args.text.now c.ending.result.now (Some c.in-Some.meaning) c.in-Some.ensures.cases in
    meaning_or_none c.args.text.now c.in-Some.meaning.now c.contains.result
    (whole ∙ ap (λ (xs : List ℕ). c.in-Some.meaning.now ++ xs) c.ending.ensures) c.contains.ensures.value
