use Rattle.std.proofs.Common.{◌∙◌, ◌∷◌, [], ap, map, string_bytes, sym, String, Global}
use Rattle.std.proofs.lemmas.List.{map-append}
use Rattle.ipmi_json.proofs.StateLemmas.{text_added, text_passed}
use Rattle.ipmi_json.proofs.states.texts_of_states.Goals as goal
use Rattle.ipmi_json.proofs.states.texts_of_states.Goals.{then-is_set+in_ok-state_text+in_ok-push, else-is_set}

pub loop-state-preserved : goal.loop-state-preserved
loop-state-preserved c =
    let before = c.loop-state.invariant in
    elim c.if-is_set.branch [
      | then-is_set+in_ok-state_text+in_ok-push w ↦
          let items = ap (λ v. v.items) w.texts-is ∙ w.in_ok-push.ensures.items in
          text_added c.args.sensor.now c.args.states c.loop-state.state _ _ _ (sym c.is_set.ensures ∙ w.if-is_set.true) before w.in_ok-state_text.ensures
          (ap (map (λ (text : String Global). string_bytes text)) items ∙ map-append (λ (text : String Global). string_bytes text) c.loop-state.texts.items (w.in_ok-state_text.field-0 ∷ []))
      | else-is_set w ↦
          text_passed c.args.sensor.now c.args.states c.loop-state.state _ (sym c.is_set.ensures ∙ w.if-is_set.false) (ap (λ v. map (λ (text : String Global). string_bytes text) v.items) w.texts-is ∙ before)
    ]
