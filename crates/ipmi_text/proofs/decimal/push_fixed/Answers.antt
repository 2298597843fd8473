use Rattle.std.proofs.Common.{rules, ◌≡◌, ◌∙◌, ◌<◌, ◌%◌, ◌/◌, ◌^◌, ◌++◌, ℕ, ap, arith, string_bytes, decimal, unsigned_abs}
use Rattle.std.proofs.lemmas.Grind.{common_steps}
use Rattle.std.proofs.lemmas.Result.{IfOk-weaker}
use Rattle.ipmi_text.specs.Decimal.{sign_of}
use Rattle.ipmi_text.proofs.DivisionLemmas.{appended}
use Rattle.ipmi_text.proofs.decimal.push_fixed.Goals as goal

pub returns : goal.returns
returns c =
    let v = c.args.value.0 in
    let size_is : c.unsigned_abs.result ≡ unsigned_abs v = search rules in
    let small : unsigned_abs v < 10 ^ 64 = omega (arith, c.unsigned_abs.ensures.bound, size_is) in
    let sign_is : c.sign.result.now ≡ sign_of v = search rules in
    let whole_is : c.parts-whole.result.0 ≡ unsigned_abs v / 10 ^ 16 = c.parts-whole.ensures.whole ∙ ap (λ (n : ℕ). n / 10 ^ 16) size_is in
    let rest_is : c.parts-whole.result.1 ≡ unsigned_abs v % 10 ^ 16 = c.parts-whole.ensures.rest ∙ ap (λ (n : ℕ). n % 10 ^ 16) size_is in
    let start_is : string_bytes c.push_whole.new.text ≡ string_bytes c.args.text.now ++ (sign_of v ++ decimal (unsigned_abs v / 10 ^ 16)) =
    rw (← whole_is, ← sign_is) (grind (arith, common_steps, c.in_ok-push_whole.ensures, c.in_ok-push_str.ensures.bytes)) in
    IfOk-weaker c.push_fraction.result _ _
    (λ _ h. appended v (string_bytes c.args.text.now) (string_bytes c.push_whole.new.text)
    (string_bytes c.push_fraction.new.text) small start_is (rw (← rest_is) h))
    c.push_fraction.ensures
