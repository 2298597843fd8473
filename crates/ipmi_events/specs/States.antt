-- The states of a discrete sensor in words.
use Rattle.std.specs.Prelude.{ℕ, List, [], ◌∷◌, ◌++◌, codes, decimal, filter, unwrap_or}
use Rattle.std.specs.List.{join_by, range_with_len}
use Rattle.ipmi_events.specs.Below.{Sensor, has_bit}
use Rattle.ipmi_events.specs.Words.{event_words}

-- the words of a state's event, or else the state's number
abbrev pub state_words : ℕ → ℕ → ℕ → List ℕ
state_words event_type sensor_type state =
    unwrap_or (event_words event_type sensor_type state) (codes "state " ++ decimal state)

-- the states that are set, out of 15 (IPMI v2.0, section 35.14)
abbrev pub set_states : ℕ → List ℕ
set_states states = filter (λ state. has_bit state states) (range_with_len 0 15)

abbrev pub joined_states : Sensor → List ℕ → List ℕ
joined_states sensor states =
    join_by (state_words sensor.event_type sensor.sensor_type) (codes ", ") states

abbrev pub or_no_state : Sensor → List ℕ → List ℕ
or_no_state sensor [] = codes "no state"
or_no_state sensor (state ∷ states) = joined_states sensor (state ∷ states)

-- the words of the states that are set
abbrev pub states_in_words : Sensor → ℕ → List ℕ
states_in_words sensor states = or_no_state sensor (set_states states)
