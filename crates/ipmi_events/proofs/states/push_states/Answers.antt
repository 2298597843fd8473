use Rattle.std.proofs.Common.{◌≡◌, ◌∙◌, [], ◌∷◌, ◌++◌, OnOk, ap, arith, codes, refl, rules, string_bytes, sym}
use Rattle.std.proofs.lemmas.Result.{on_ok_weaker}
use Rattle.ipmi_events.proofs.StateLemmas.{all_told, none_told, state_joined, state_passed}
use Rattle.ipmi_events.proofs.states.push_states.Goals as goal
use Rattle.ipmi_events.proofs.states.push_states.Goals.{then-is_set+in_ok-write, else-is_set}

pub loop-state-preserved : goal.loop-state-preserved
unfolding lib.Utf8.encode
loop-state-preserved c =
    let before = c.loop-state.invariant in
    elim c.if-is_set.branch [
      | then-is_set+in_ok-write w ↦
          let comma : c.if-is_set.separator.now ≡ codes ", " = ap (λ b. b.now) w.separator-is in
          let joined = state_joined c.args.sensor.now c.args.states c.loop-state.state (string_bytes c.args.text.now) (string_bytes c.loop-state.text) (string_bytes w.write.new.self) c.loop-state.separator.now (sym c.is_set.ensures ∙ w.if-is_set.true) before.1.0 before.1.1 w.in_ok-write.ensures.bytes in
          ((44 ∷ 32 ∷ [], (refl, sym comma)), (comma ∙ joined.0, ap string_bytes w.text-is ∙ joined.1))
      | else-is_set w ↦
          let same : c.if-is_set.separator.now ≡ c.loop-state.separator.now = ap (λ b. b.now) w.separator-is in
          let passed = state_passed c.args.states c.loop-state.state (sym c.is_set.ensures ∙ w.if-is_set.false) in
          ((before.0.0, (before.0.1.0, before.0.1.1 ∙ sym same)), (same ∙ rw passed before.1.0, ap string_bytes w.text-is ∙ rw passed before.1.1))
    ]

pub returns-then-is_empty : goal.returns-then-is_empty
returns-then-is_empty c =
    let all : c.loop-state.state ≡ 15 = omega (arith, c.loop-state-test.false, c.loop-state.auto.state-end) in
    let told = none_told c.args.sensor.now c.args.states c.loop-state.state (string_bytes c.args.text.now) (string_bytes c.loop-state.text) c.loop-state.separator.now all c.loop-state.invariant.1.0 c.loop-state.invariant.1.1 (sym c.is_empty.ensures ∙ c.if-is_empty.true) in
    let pushed : OnOk c.push_str.result (string_bytes c.push_str.new.self ≡ string_bytes c.loop-state.text ++ codes "no state") = search rules in
    on_ok_weaker c.push_str.result (λ h. h ∙ told) pushed

pub returns : goal.returns
returns c = all_told c.args.sensor.now c.args.states c.loop-state.state _ (string_bytes c.loop-state.text) c.loop-state.separator.now (omega (arith, c.loop-state-test.false, c.loop-state.auto.state-end)) c.loop-state.invariant.1.0 c.loop-state.invariant.1.1 (sym c.is_empty.ensures ∙ c.if-is_empty.false)
