use Rattle.std.proofs.Common.{◌≡◌, ◌++◌, codes, string_bytes}
use denote.Text.{Utf8}
use denote.Shadow.{shadow}
use Rattle.ipmi_events.specs.States.{joined_states}
use Rattle.ipmi_events.proofs.StateLemmas.{separator_after, set_below}
use Rattle.ipmi_events.proofs.states.push_states.Given as goal

abbrev pub invariant-loop-state : goal.invariant-loop-state
invariant-loop-state l =
    shadow (Utf8 l.separator)
    × ((l.separator ≡ separator_after (codes ", ") (set_below l.state l.fn.states))
    × (string_bytes l.text ≡ string_bytes l.fn.text ++ joined_states l.fn.sensor (set_below l.state l.fn.states)))
