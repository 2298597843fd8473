use Rattle.std.proofs.Common.{◌≡◌, ◌≢◌, ◌<◌, ◌++◌, ℕ, List, [], ◌∷◌, length, sym, ◌∙◌, arith}
use Rattle.std.proofs.lemmas.List.{length-append}
use Rattle.std.proofs.lemmas.List.Elements.{All-nil, All-cons, All-append}
use Rattle.ipmi_raw.specs.Words.{ending, break_before, word}
use Rattle.ipmi_raw.proofs.WordLemmas.{agree, differ, read_one, read_all, read_no_more}
use Rattle.ipmi_raw.proofs.reply.read_words.Goals as goal

pub returns-then-eq : goal.returns-then-eq
returns-then-eq c =
    let now : c.loop-i.rest.now ≡ c.ending.result.now = agree c.loop-i.rest.now c.ending.result.now c.eq.result c.eq.ensures c.if-eq.true in (
      (omega arith, c.loop-i.invariant.1),
      read_all c.args.tool c.args.text.now c.loop-i.bytes.items c.loop-i.rest.now c.loop-i.invariant.2 (now ∙ c.ending.ensures),
    )

pub returns-in_err-byte : goal.returns-in_err-byte
returns-in_err-byte c =
    let more_follow : c.loop-i.rest.now ≢ ending c.args.tool =
    λ e. differ c.loop-i.rest.now c.ending.result.now c.eq.result c.eq.ensures c.if-eq.false (e ∙ sym c.ending.ensures) in
    let no_word : (byte : ℕ) (after : List ℕ) → byte < 256
    → c.loop-i.rest.now ≢ break_before c.args.tool (length c.loop-i.bytes.items) ++ (word c.args.tool byte ++ after) =
    rw c.loop-i.invariant.0 c.in_err-byte.ensures in
    rw c.from_residual.ensures
    (read_no_more c.args.tool c.args.text.now c.loop-i.bytes.items c.loop-i.rest.now c.loop-i.invariant.2 more_follow no_word)

pub loop-i-preserved : goal.loop-i-preserved
loop-i-preserved c =
    let more_follow : c.loop-i.rest.now ≢ ending c.args.tool =
    λ e. differ c.loop-i.rest.now c.ending.result.now c.eq.result c.eq.ensures c.if-eq.false (e ∙ sym c.ending.ensures) in
    let next : c.loop-i.rest.now ≡ break_before c.args.tool (length c.loop-i.bytes.items) ++ (word c.args.tool c.in_ok-byte.byte ++ c.in_ok-byte.after.now) =
    rw c.loop-i.invariant.0 c.in_ok-byte.ensures.1 in
    let one = All-cons (λ (b : ℕ). b < 256) c.in_ok-byte.byte [] c.in_ok-byte.ensures.0 (All-nil (λ (b : ℕ). b < 256)) in
    rw c.push.ensures.items (
      omega (arith, c.loop-i.invariant.0, length-append c.loop-i.bytes.items (c.in_ok-byte.byte ∷ [])),
      All-append (λ (b : ℕ). b < 256) c.loop-i.bytes.items (c.in_ok-byte.byte ∷ []) c.loop-i.invariant.1 one,
      read_one c.args.tool c.args.text.now c.loop-i.bytes.items c.loop-i.rest.now c.in_ok-byte.after.now c.in_ok-byte.byte c.loop-i.invariant.2 c.in_ok-byte.ensures.0 more_follow next,
    )

pub returns-then-eq-2 : goal.returns-then-eq-2
returns-then-eq-2 c =
    let now : c.loop-i.rest.now ≡ c.ending-2.result.now = agree c.loop-i.rest.now c.ending-2.result.now c.eq-2.result c.eq-2.ensures c.if-eq-2.true in (
      (omega arith, c.loop-i.invariant.1),
      read_all c.args.tool c.args.text.now c.loop-i.bytes.items c.loop-i.rest.now c.loop-i.invariant.2 (now ∙ c.ending-2.ensures),
    )
