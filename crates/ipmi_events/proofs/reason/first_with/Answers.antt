use Rattle.std.proofs.Common.{◌∙◌, [], ◌∷◌, cond}
use Rattle.std.proofs.lemmas.List.Folds.{find-append}
use Rattle.ipmi_events.specs.Below.{has_bit}
use Rattle.ipmi_events.specs.Reason.{has_severity}
use Rattle.ipmi_events.proofs.StateLemmas.{set_below, set_more}
use Rattle.ipmi_events.proofs.reason.first_with.Goals as goal

pub loop-state-preserved : goal.loop-state-preserved
loop-state-preserved c =
    rw (set_more c.loop-state.state c.args.states, find-append (has_severity c.args.sensor.now c.args.severity) (set_below c.loop-state.state c.args.states) (cond (has_bit c.loop-state.state c.args.states) (c.loop-state.state ∷ []) []), ← c.loop-state.invariant, ← c.state_with.ensures)
    c.or-first.ensures
