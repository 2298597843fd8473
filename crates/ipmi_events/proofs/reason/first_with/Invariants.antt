use Rattle.std.proofs.Common.{◌≡◌}
use Rattle.std.specs.List.{find}
use Rattle.ipmi_events.specs.Reason.{has_severity}
use Rattle.ipmi_events.proofs.StateLemmas.{set_below}
use Rattle.ipmi_events.proofs.reason.first_with.Given as goal

-- The first of the states so far.
abbrev pub invariant-loop-state : goal.invariant-loop-state
invariant-loop-state l = l.first ≡ find (has_severity l.sensor l.severity) (set_below l.state l.states)
