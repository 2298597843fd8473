use Rattle.std.proofs.Common.{◌≡◌}
use Rattle.ipmi_events.proofs.SeverityLemmas.{worst_below}
use Rattle.ipmi_events.proofs.worst.discrete_severity.Given as goal

-- The worst of the states so far.
abbrev pub invariant-loop-state : goal.invariant-loop-state
invariant-loop-state l = l.worst ≡ worst_below l.sensor l.state l.states
