-- What makes a sensor or an event worse than nominal, in words.
use Rattle.std.specs.Prelude.{ℕ, ◌==◌, Bool, List, codes, Option, None, Some, option_map, if◌then◌else◌}
use Rattle.std.specs.List.{find}
use Rattle.std.specs.Option.{option_and_then}
use Rattle.ipmi_records.specs.Prelude.{event_type, sensor_type}
use Rattle.ipmi_events.specs.Below.{Sensor, Shown, Threshold, has_thresholds, states_of}
use Rattle.ipmi_events.specs.Severity.{event_severity, severity_of}
use Rattle.ipmi_events.specs.States.{set_states}
use Rattle.ipmi_events.specs.Status.{first_passed, from_worst}
use Rattle.ipmi_events.specs.Words.{event_offset, event_words}
use Rattle.ipmi_events.specs.Worst.{discrete_severity, rank}
use Rattle.ipmi_events.specs.declared.severity.Severity.{Severity}

-- a threshold in words (IPMI v2.0, table 42-2)
abbrev pub threshold_words : Threshold → List ℕ
threshold_words Threshold.UpperNonRecoverable = codes "Upper Non-recoverable"
threshold_words Threshold.UpperCritical = codes "Upper Critical"
threshold_words Threshold.UpperNonCritical = codes "Upper Non-critical"
threshold_words Threshold.LowerNonRecoverable = codes "Lower Non-recoverable"
threshold_words Threshold.LowerCritical = codes "Lower Critical"
threshold_words Threshold.LowerNonCritical = codes "Lower Non-critical"

abbrev pub has_severity : Sensor → Option Severity → ℕ → Bool
has_severity sensor severity state =
    rank (severity_of sensor.event_type sensor.sensor_type state) == rank severity

-- the first state that is set and has this severity
abbrev pub first_with : Sensor → Option Severity → ℕ → Option ℕ
first_with sensor severity states = find (has_severity sensor severity) (set_states states)

-- these words for a severity that is worse than nominal
abbrev pub if_worse : Option Severity → Option (List ℕ) → Option (List ℕ)
if_worse (Some Severity.Warning) words = words
if_worse (Some Severity.Critical) words = words
if_worse _ words = None

-- the worst state that is set, the first of several
unfoldable pub worst_state : Sensor → ℕ → Option (List ℕ)
worst_state sensor states =
    if_worse (discrete_severity sensor states)
    (option_and_then (event_words sensor.event_type sensor.sensor_type)
    (first_with sensor (discrete_severity sensor states) states))

-- the worst threshold that the reading has passed, or the worst state that is set
abbrev pub sensor_reason : Sensor → Shown → Option (List ℕ)
sensor_reason sensor (Shown.Value reading) =
    if has_thresholds sensor then option_map threshold_words (first_passed from_worst reading.status)
    else worst_state sensor (states_of reading)
sensor_reason sensor _ = None

-- the state that the event reports
abbrev pub event_reason : List ℕ → Option (List ℕ)
event_reason bytes =
    if_worse (event_severity bytes)
    (event_words (event_type bytes) (sensor_type bytes) (event_offset bytes))
