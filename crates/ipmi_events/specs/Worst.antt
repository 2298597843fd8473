-- How bad what a sensor shows is.
use Rattle.std.specs.Prelude.{ℕ, nat_lt, List, [], ◌∷◌, map, Option, None, Some, if◌then◌else◌}
use Rattle.ipmi_events.specs.Below.{Sensor, Shown, Threshold, has_thresholds, states_of}
use Rattle.ipmi_events.specs.Severity.{severity_of}
use Rattle.ipmi_events.specs.States.{set_states}
use Rattle.ipmi_events.specs.Status.{first_passed, from_worst}
use Rattle.ipmi_events.specs.declared.severity.Severity.{Severity}

-- what has no severity is worse than nominal, and a warning is worse than that
abbrev pub rank : Option Severity → ℕ
rank (Some Severity.Nominal) = 0
rank None = 1
rank (Some Severity.Warning) = 2
rank (Some Severity.Critical) = 3

abbrev pub worse_of : Option Severity → Option Severity → Option Severity
worse_of one other = if nat_lt (rank one) (rank other) then other else one

-- the worst of the first and the others
abbrev pub worst : Option Severity → List (Option Severity) → Option Severity
worst first [] = first
worst first (severity ∷ others) = worst (worse_of first severity) others

-- the worst of the states that are set; nominal without one
unfoldable pub discrete_severity : Sensor → ℕ → Option Severity
discrete_severity sensor states =
    worst (Some Severity.Nominal) (map (severity_of sensor.event_type sensor.sensor_type) (set_states states))

-- by the worst threshold that the reading has passed
abbrev pub passed_severity : Option Threshold → Severity
passed_severity None = Severity.Nominal
passed_severity (Some Threshold.UpperNonCritical) = Severity.Warning
passed_severity (Some Threshold.LowerNonCritical) = Severity.Warning
passed_severity (Some Threshold.UpperCritical) = Severity.Critical
passed_severity (Some Threshold.LowerCritical) = Severity.Critical
passed_severity (Some Threshold.UpperNonRecoverable) = Severity.Critical
passed_severity (Some Threshold.LowerNonRecoverable) = Severity.Critical

-- a sensor without a reading has none
abbrev pub sensor_severity : Sensor → Shown → Option Severity
sensor_severity sensor (Shown.Value reading) =
    if has_thresholds sensor then Some (passed_severity (first_passed from_worst reading.status))
    else discrete_severity sensor (states_of reading)
sensor_severity sensor _ = None
