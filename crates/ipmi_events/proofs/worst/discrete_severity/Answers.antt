use Rattle.std.proofs.Common.{◌∙◌, arith, sym}
use Rattle.ipmi_events.proofs.SeverityLemmas.{worst_added, worst_of_all, worst_passed}
use Rattle.ipmi_events.proofs.worst.discrete_severity.Goals as goal
use Rattle.ipmi_events.proofs.worst.discrete_severity.Goals.{then-is_set, else-is_set}

pub loop-state-preserved : goal.loop-state-preserved
loop-state-preserved c =
    let before = c.loop-state.invariant in
    elim c.if-is_set.branch [
      | then-is_set w ↦
          w.worst-is ∙ (rw (w.worse_of-worst.ensures, before, w.severity_of-severity.ensures) (sym (worst_added c.args.sensor.now c.args.states c.loop-state.state (sym c.is_set.ensures ∙ w.if-is_set.true))))
      | else-is_set w ↦
          w.worst-is ∙ (before ∙ sym (worst_passed c.args.sensor.now c.args.states c.loop-state.state (sym c.is_set.ensures ∙ w.if-is_set.false)))
    ]

pub returns : goal.returns
returns c =
    c.loop-state.invariant
    ∙ worst_of_all c.args.sensor.now c.args.states c.loop-state.state (omega (arith, c.loop-state-test.false, c.loop-state.auto.state-end))
