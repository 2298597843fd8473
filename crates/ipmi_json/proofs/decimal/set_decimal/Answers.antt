use Rattle.std.proofs.Common.{◌∙◌, refl, subst, sym}
use Rattle.std.proofs.lemmas.Result.{on_ok_weaker}
use Rattle.ipmi_text.specs.Decimal.{IsDecimalOf}
use Rattle.ipmi_json.proofs.decimal.set_decimal.Goals as goal

pub returns : goal.returns
returns c = on_ok_weaker c.push_fixed.result
    (λ said. subst (IsDecimalOf c.args.value.0) (sym (said.text_is ∙ rw c.clear.ensures.bytes refl)) said.is_text)
    c.push_fixed.ensures
