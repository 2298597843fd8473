-- The worst of several severities, one by one.
use Rattle.std.proofs.Common.{◌≡◌, ◌∙◌, ℕ, ◌+◌, List, [], ◌∷◌, ◌++◌, Option, Some, true, false, map, refl}
use Rattle.std.proofs.lemmas.List.{map-append}
use Rattle.ipmi_events.specs.Below.{Sensor, has_bit}
use Rattle.ipmi_events.specs.Severity.{severity_of}
use Rattle.ipmi_events.specs.Worst.{discrete_severity, worse_of, worst}
use Rattle.ipmi_events.specs.declared.severity.Severity.{Severity}
use Rattle.ipmi_events.proofs.StateLemmas.{set_below, set_more, state_passed}

worst_more : (first : Option Severity) (severities : List (Option Severity)) (last : Option Severity)
    → worst first (severities ++ last ∷ []) ≡ worse_of (worst first severities) last
worst_more first [] last = refl
worst_more first (severity ∷ others) last = worst_more (worse_of first severity) others last

-- the worst of the states below `count` that are set
abbrev pub worst_below : Sensor → ℕ → ℕ → Option Severity
worst_below sensor count states =
    worst (Some Severity.Nominal) (map (severity_of sensor.event_type sensor.sensor_type) (set_below count states))

-- a state that is set counts
pub worst_added : (sensor : Sensor) (states count : ℕ) → has_bit count states ≡ true
    → worst_below sensor (count + 1) states
    ≡ worse_of (worst_below sensor count states) (severity_of sensor.event_type sensor.sensor_type count)
worst_added sensor states count is_set =
    let more : set_below (count + 1) states ≡ set_below count states ++ count ∷ [] = rw is_set at (set_more count states) in
    rw (more, map-append (severity_of sensor.event_type sensor.sensor_type) (set_below count states) (count ∷ []))
    (worst_more (Some Severity.Nominal) (map (severity_of sensor.event_type sensor.sensor_type) (set_below count states)) (severity_of sensor.event_type sensor.sensor_type count))

-- a state that is not set changes nothing
pub worst_passed : (sensor : Sensor) (states count : ℕ) → has_bit count states ≡ false
    → worst_below sensor (count + 1) states ≡ worst_below sensor count states
worst_passed sensor states count is_not = rw (state_passed states count is_not) refl

-- and then all states are told
pub worst_of_all : (sensor : Sensor) (states count : ℕ) → count ≡ 15
    → worst_below sensor count states ≡ discrete_severity sensor states
unfolding discrete_severity
worst_of_all sensor states count all = rw all refl
