use Rattle.std.proofs.Common.{rules, ◌≡◌, ◌+◌, ◌/◌, ◌++◌, ◌∷◌, [], arith, string_bytes}
use Rattle.std.proofs.lemmas.Grind.{common_steps}
use Rattle.ipmi_text.proofs.DivisionLemmas.{all_written, next_digit, one_more_written}
use Rattle.ipmi_text.proofs.decimal.push_fraction.Goals as goal

pub nonzero_div-rest : goal.nonzero_div-rest
nonzero_div-rest c = (next_digit _ _ _ _ _ c.digits.invariant c.digits-test.true).0

pub nonzero_rem-rest : goal.nonzero_rem-rest
nonzero_rem-rest c = (next_digit _ _ _ _ _ c.digits.invariant c.digits-test.true).0

pub digits-preserved : goal.digits-preserved
digits-preserved c =
    let digit = (next_digit _ _ _ _ _ c.digits.invariant c.digits-test.true).1 in
    let d = c.digits.rest / (c.digits.place / 10) in
    let pushed : string_bytes c.push-in-digits.new.self ≡ string_bytes c.digits.text ++ (48 + d) ∷ [] = grind (arith, common_steps, c.in_ok-push-2.ensures.bytes, c.in_ok-push-2.ensures.ascii) in
    one_more_written _ _ _ _ _ _ c.digits.invariant c.digits-test.true pushed

pub returns : goal.returns
returns c = all_written _ _ _ _ _ c.digits.invariant c.digits-test.false c.if-fraction-eq0.false

pub digits-init : goal.digits-init
digits-init c = search rules
