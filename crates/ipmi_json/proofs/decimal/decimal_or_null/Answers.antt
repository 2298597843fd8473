use Rattle.std.proofs.Common.{decimal, refl, rules, subst, sym}
use Rattle.ipmi_text.specs.Decimal.{IsDecimalOf}
use Rattle.ipmi_json.proofs.NumberLemmas.{number_is, whole_decimal}
use Rattle.ipmi_json.proofs.decimal.decimal_or_null.Goals as goal

pub returns-in-Some-whole_of : goal.returns-in-Some-whole_of
returns-in-Some-whole_of c =
    let n = c.in-Some-whole_of.whole in
    let is = subst (λ z. IsDecimalOf z (decimal n)) (sym c.in-Some-whole_of.ensures) (whole_decimal n (search rules)) in
    rw c.in-Some.is (decimal n, (is, refl))

pub invariant_of-result : goal.invariant_of-result
invariant_of-result c = record {
  is_number = rw c.as_str-digits.ensures.value (number_is c.in-Some.value.0 _ c.in_ok-set_decimal.ensures);
}
