use Rattle.std.proofs.Common.{◌≡◌, ◌∙◌, List, ℕ, ap, drop, refl}
use Rattle.ipmi_text.specs.Units.{after_space, unit_text_of}
use Rattle.ipmi_json.specs.Object.{text_unless_empty}
use Rattle.ipmi_json.proofs.SdrLemmas.{begins_with_space, unspaced}
use Rattle.ipmi_json.proofs.sdr.unit_or_null.Goals as goal

pub after_first-requires : goal.after_first-requires
after_first-requires c =
    let unit : List ℕ = unit_text_of c.args.units.units1 c.args.units.base c.args.units.modifier in
    let text : c.as_str.result.now ≡ after_space unit = c.as_str.ensures.value ∙ c.in_ok-push_units.ensures ∙ rw c.clear.ensures.bytes refl in
    rw text (begins_with_space unit)

pub returns : goal.returns
returns c =
    let unit : List ℕ = unit_text_of c.args.units.units1 c.args.units.base c.args.units.modifier in
    let text : c.as_str.result.now ≡ after_space unit = c.as_str.ensures.value ∙ c.in_ok-push_units.ensures ∙ rw c.clear.ensures.bytes refl in
    c.text_unless_empty.ensures ∙ ap text_unless_empty (c.after_first.ensures ∙ ap (drop 1) text ∙ unspaced unit)
