use Rattle.std.proofs.Common.{◌≡◌, map, string_bytes}
use Rattle.ipmi_json.proofs.StateLemmas.{texts_below}
use Rattle.ipmi_json.proofs.states.texts_of_states.Given as goal

-- The texts of the states so far.
abbrev pub invariant-loop-state : goal.invariant-loop-state
invariant-loop-state l =
    map (λ text. string_bytes text) l.texts.items ≡ texts_below l.sensor l.state l.states
