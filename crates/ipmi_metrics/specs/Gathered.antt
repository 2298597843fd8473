-- The samples of all families, gathered from one sensor after another.
use Rattle.std.specs.Prelude.{◌≡◌, ℕ, ℤ, Option, List, [], ◌++◌, string_bytes}
use Rattle.ipmi_text.specs.Appended.{Appends}
use Rattle.ipmi_events.specs.declared.severity.Severity.{Severity}
use Rattle.ipmi_metrics.specs.Families.{family_name, with_head}
use Rattle.ipmi_metrics.specs.Samples.{IsValueSample, sample, severity_number}
use Rattle.ipmi_metrics.specs.declared.families.Family.{Family}
use Rattle.ipmi_metrics.specs.declared.gathered.ByMeasure.{ByMeasure}
use Rattle.ipmi_metrics.specs.declared.gathered.Gathered.{Gathered}
use Rattle.ipmi_metrics.specs.declared.gathered.Measured.{Measured}
use Rattle.ipmi_metrics.specs.declared.measure.Measure.{Measure}

-- ---- the samples so far

abbrev pub measured_in : ByMeasure → Measure → Measured
measured_in all Measure.Temperature = all.temperature
measured_in all Measure.FanSpeed = all.fan_speed
measured_in all Measure.Voltage = all.voltage
measured_in all Measure.Current = all.current
measured_in all Measure.Power = all.power
measured_in all Measure.Other = all.other

abbrev pub samples_in : Gathered → Family → List ℕ
samples_in all (Family.Value measure) = string_bytes (measured_in all.by_measure measure).values
samples_in all (Family.State measure) = string_bytes (measured_in all.by_measure measure).states
samples_in all Family.Threshold = string_bytes all.thresholds
samples_in all Family.Info = string_bytes all.infos

pub record IsEmpty (all : Measured) : Type 0 where
  pub values : string_bytes all.values ≡ []
  pub states : string_bytes all.states ≡ []

abbrev pub IsFamilyOf : Gathered → Family → List ℕ → Type 0
IsFamilyOf all family text = text ≡ with_head family (samples_in all family)

-- ---- one sensor more

-- the samples of its value and its state are appended
pub record AddsMeasured (measure : Measure) (labels : List ℕ) (value : Option ℤ) (severity : Option Severity) (old new : Measured) : Type 0 where
  pub value_is : Appends (IsValueSample (family_name (Family.Value measure)) labels value) (string_bytes old.values) (string_bytes new.values)
  pub state_is : string_bytes new.states ≡ string_bytes old.states ++ sample (family_name (Family.State measure)) labels (severity_number severity)

-- the samples of a measure are replaced
abbrev pub with_measured : ByMeasure → Measure → Measured → ByMeasure
with_measured all Measure.Temperature after = record all { temperature = after }
with_measured all Measure.FanSpeed after = record all { fan_speed = after }
with_measured all Measure.Voltage after = record all { voltage = after }
with_measured all Measure.Current after = record all { current = after }
with_measured all Measure.Power after = record all { power = after }
with_measured all Measure.Other after = record all { other = after }

-- those of its measure are appended, and no others
pub record AddsTo (measure : Measure) (labels : List ℕ) (value : Option ℤ) (severity : Option Severity) (old new : ByMeasure) : Type 0 where
  pub after : Measured
  pub adds : AddsMeasured measure labels value severity (measured_in old measure) after
  pub new_is : new ≡ with_measured old measure after

-- such samples are appended in each family
abbrev pub Adds : (Family → List ℕ → Type 0) → Gathered → Gathered → Type 0
Adds AreSamples old new = (family : Family) → Appends (AreSamples family) (samples_in old family) (samples_in new family)
