-- The families of the samples of sensors, in the order in which they are printed: their names, what they say, and their heads.
use Rattle.std.specs.Prelude.{ℕ, List, [], ◌∷◌, ◌++◌, codes}
use Rattle.ipmi_metrics.specs.declared.families.Family.{Family}
use Rattle.ipmi_metrics.specs.declared.measure.Measure.{Measure}

abbrev pub families : List Family
families =
    Family.Value Measure.Temperature
    ∷ Family.State Measure.Temperature
    ∷ Family.Value Measure.FanSpeed
    ∷ Family.State Measure.FanSpeed
    ∷ Family.Value Measure.Voltage
    ∷ Family.State Measure.Voltage
    ∷ Family.Value Measure.Current
    ∷ Family.State Measure.Current
    ∷ Family.Value Measure.Power
    ∷ Family.State Measure.Power
    ∷ Family.Value Measure.Other
    ∷ Family.State Measure.Other
    ∷ Family.Threshold
    ∷ Family.Info
    ∷ []

abbrev pub family_name : Family → List ℕ
family_name (Family.Value Measure.Temperature) = codes "ipmi_temperature_celsius"
family_name (Family.State Measure.Temperature) = codes "ipmi_temperature_state"
family_name (Family.Value Measure.FanSpeed) = codes "ipmi_fan_speed_rpm"
family_name (Family.State Measure.FanSpeed) = codes "ipmi_fan_speed_state"
family_name (Family.Value Measure.Voltage) = codes "ipmi_voltage_volts"
family_name (Family.State Measure.Voltage) = codes "ipmi_voltage_state"
family_name (Family.Value Measure.Current) = codes "ipmi_current_amperes"
family_name (Family.State Measure.Current) = codes "ipmi_current_state"
family_name (Family.Value Measure.Power) = codes "ipmi_power_watts"
family_name (Family.State Measure.Power) = codes "ipmi_power_state"
family_name (Family.Value Measure.Other) = codes "ipmi_sensor_value"
family_name (Family.State Measure.Other) = codes "ipmi_sensor_state"
family_name Family.Threshold = codes "ipmi_sensor_threshold"
family_name Family.Info = codes "ipmi_sensor_info"

abbrev pub family_help : Family → List ℕ
family_help (Family.Value Measure.Temperature) = codes "What a sensor measures, in degrees Celsius."
family_help (Family.Value Measure.FanSpeed) = codes "What a sensor measures, in rotations per minute."
family_help (Family.Value Measure.Voltage) = codes "What a sensor measures, in volts."
family_help (Family.Value Measure.Current) = codes "What a sensor measures, in amperes."
family_help (Family.Value Measure.Power) = codes "What a sensor measures, in watts."
family_help (Family.Value Measure.Other) = codes "What another sensor measures, in a unit of its own; NaN if it only has states."
family_help (Family.State measure) = codes "How a sensor is: 0 is nominal, 1 a warning, 2 critical, NaN not known."
family_help Family.Threshold = codes "The value of a readable threshold."
family_help Family.Info = codes "What the record of a sensor says of it."

-- each family is one of gauges
abbrev pub head : List ℕ → List ℕ → List ℕ
head name help = codes "# HELP " ++ (name ++ (codes " " ++ (help ++ (codes "\n# TYPE " ++ (name ++ codes " gauge\n")))))

-- a family without samples is left out
abbrev pub with_head : Family → List ℕ → List ℕ
with_head family [] = []
with_head family (first ∷ rest) = head (family_name family) (family_help family) ++ (first ∷ rest)
