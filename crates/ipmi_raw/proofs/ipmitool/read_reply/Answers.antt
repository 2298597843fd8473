use Rattle.std.proofs.Common.{◌≡◌, ◌≢◌, ◌++◌, List, ℕ, ap, ◌∙◌, codes, rules}
use Rattle.ipmi_raw.specs.Ipmitool.{refusal}
use Rattle.ipmi_raw.proofs.WordLemmas.{differ}
use Rattle.ipmi_raw.proofs.IpmitoolLemmas.{no_front, no_reply, no_zero}
use Rattle.ipmi_raw.proofs.ipmitool.read_reply.Goals as goal

pub returns-in_err-rest : goal.returns-in_err-rest
returns-in_err-rest c =
    rw c.from_residual.ensures
    (no_front c.args.request c.args.text.now c.as_slice.result.now c.in_default.ensures (c.as_slice.ensures.value ∙ c.refusal-refusal.ensures)
    c.in_err-rest.ensures)

pub returns-then-code-eq0 : goal.returns-then-code-eq0
returns-then-code-eq0 c =
    let begins : c.args.text.now ≡ refusal c.args.request ++ c.in_ok-rest.rest.now =
    c.in_ok-rest.ensures ∙ ap (λ (xs : List ℕ). xs ++ c.in_ok-rest.rest.now) (c.as_slice.ensures.value ∙ c.refusal-refusal.ensures) in
    let heard : c.in_ok-rest.rest.now ≢ codes ")\n. \n" =
    differ c.in_ok-rest.rest.now (codes ")\n. \n") c.eq.result c.eq.ensures c.if-eq.false in
    no_reply c.args.request c.args.text.now c.in_ok-rest.rest.now c.in_default.ensures begins heard
    (no_zero c.in_ok-rest.rest.now c.in_ok-rest-2.rest.now c.in_ok-code.rest.now c.in_ok-code.code c.in_ok-rest-2.ensures
    c.in_ok-code.ensures.1 c.in_ok-code.ensures.0 c.if-code-eq0.true)

pub returns-then-eq : goal.returns-then-eq
returns-then-eq c = search rules

pub returns-then-is_meaning : goal.returns-then-is_meaning
returns-then-is_meaning c = search rules
