-- The samples of a sensor in each family.
use Rattle.std.specs.Prelude.{◌≡◌, ℕ, ℤ, Bool, true, false, Option, Some, None, List, [], ◌++◌, codes}
use Rattle.ipmi_text.specs.Decimal.{IsDecimalOf}
use Rattle.ipmi_records.specs.Prelude.{all_thresholds, sensor_of, shown_of}
use Rattle.ipmi_records.specs.declared.column.KnownReading.{KnownReading}
use Rattle.ipmi_records.specs.declared.column.Shown.{Shown}
use Rattle.ipmi_records.specs.declared.sdr.SdrView.{SdrView}
use Rattle.ipmi_records.specs.declared.sensor.Sensor.{Sensor}
use Rattle.ipmi_records.specs.declared.threshold.Threshold.{Threshold}
use Rattle.ipmi_events.specs.Worst.{sensor_severity}
use Rattle.ipmi_events.specs.declared.severity.Severity.{Severity}
use Rattle.ipmi_metrics.specs.Families.{family_name}
use Rattle.ipmi_metrics.specs.Labels.{info_labels, name_labels, sensor_labels, threshold_label}
use Rattle.ipmi_metrics.specs.Measure.{is_measure, measure_of}
use Rattle.ipmi_text.specs.Texts.{AreTexts}
use Rattle.ipmi_json.specs.Sdr.{threshold_value, value_shown}
use Rattle.ipmi_metrics.specs.declared.families.Family.{Family}

-- ---- one sample

abbrev pub sample : List ℕ → List ℕ → List ℕ → List ℕ
sample name labels value = name ++ (codes "{" ++ (labels ++ (codes "} " ++ (value ++ codes "\n"))))

-- NaN if there is no value
abbrev pub IsNumber : Option ℤ → List ℕ → Type 0
IsNumber None text = text ≡ codes "NaN"
IsNumber (Some value) text = IsDecimalOf value text

-- a sample of a value
pub record IsValueSample (name labels : List ℕ) (value : Option ℤ) (text : List ℕ) : Type 0 where
  pub number : List ℕ
  pub is_number : IsNumber value number
  pub text_is : text ≡ sample name labels number

-- ---- values and states

-- only a full record says what the value of a reading is
abbrev pub value_of : SdrView → Shown → Option ℤ
value_of (SdrView.Full bytes) shown = value_shown bytes shown
value_of view shown = None

-- a severity as a number
abbrev pub severity_number : Option Severity → List ℕ
severity_number (Some Severity.Nominal) = codes "0"
severity_number (Some Severity.Warning) = codes "1"
severity_number (Some Severity.Critical) = codes "2"
severity_number None = codes "NaN"

-- ---- thresholds

-- only a full record has thresholds
abbrev pub threshold_of : SdrView → Threshold → Option ℤ
threshold_of (SdrView.Full bytes) threshold = threshold_value threshold bytes
threshold_of view threshold = None

-- a threshold without a value has no sample
abbrev pub IsSampleIfAny : List ℕ → Option ℤ → List ℕ → Type 0
IsSampleIfAny labels None text = text ≡ []
IsSampleIfAny labels (Some value) text = IsValueSample (family_name Family.Threshold) labels (Some value) text

abbrev pub IsThresholdSample : List ℕ → SdrView → Threshold → List ℕ → Type 0
IsThresholdSample names view threshold text = IsSampleIfAny (names ++ threshold_label threshold) (threshold_of view threshold) text

-- ---- the samples of a record in a family

-- a sensor has a sample in the families of what it measures, and in no other of values and states
abbrev pub IfSo : Bool → (List ℕ → Type 0) → List ℕ → Type 0
IfSo true IsText text = IsText text
IfSo false IsText text = text ≡ []

abbrev pub AreSamplesOfSensor : Family → ℕ → SdrView → KnownReading → Sensor → List ℕ → Type 0
AreSamplesOfSensor (Family.Value measure) id view reading sensor text =
    IfSo (is_measure measure (measure_of view)) (λ one. IsValueSample (family_name (Family.Value measure))
    (sensor_labels (name_labels id view) measure sensor) (value_of view (shown_of sensor reading)) one) text
AreSamplesOfSensor (Family.State measure) id view reading sensor text =
    IfSo (is_measure measure (measure_of view)) (λ one. one ≡ sample (family_name (Family.State measure))
    (sensor_labels (name_labels id view) measure sensor) (severity_number (sensor_severity sensor (shown_of sensor reading)))) text
AreSamplesOfSensor Family.Threshold id view reading sensor text = AreTexts (IsThresholdSample (name_labels id view) view) all_thresholds text
AreSamplesOfSensor Family.Info id view reading sensor text =
    text ≡ sample (family_name Family.Info) (info_labels (name_labels id view) sensor) (codes "1")

-- a record that is not one of a sensor has none
abbrev pub AreSamplesOf : Family → ℕ → SdrView → KnownReading → Option Sensor → List ℕ → Type 0
AreSamplesOf family id view reading None text = text ≡ []
AreSamplesOf family id view reading (Some sensor) text = AreSamplesOfSensor family id view reading sensor text

abbrev pub AreSamplesOfView : Family → ℕ → SdrView → KnownReading → List ℕ → Type 0
AreSamplesOfView family id view reading text = AreSamplesOf family id view reading (sensor_of view) text
