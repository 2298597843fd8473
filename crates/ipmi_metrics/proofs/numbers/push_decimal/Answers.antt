use Rattle.std.proofs.Common.{◌≡◌, ◌*◌, ◌/◌, ◌^◌, decimal, pos, rules, subst, sym}
use Rattle.std.proofs.lemmas.Result.{on_ok_weaker}
use Rattle.ipmi_text.specs.Decimal.{IsDecimalOf}
use Rattle.ipmi_json.proofs.NumberLemmas.{whole_decimal}
use Rattle.ipmi_metrics.proofs.numbers.push_decimal.Goals as goal

pub returns : goal.returns
returns c =
    let whole = c.in-Ok.units / 10 ^ 16 in
    let value_is : c.args.value.0 ≡ pos (whole * 10 ^ 16) = search rules in
    on_ok_weaker c.push_whole.result
    (λ said. record { part = decimal whole; is_text = subst (λ z. IsDecimalOf z (decimal whole)) (sym value_is) (whole_decimal whole (search rules)); text_is = said })
    c.push_whole.ensures
