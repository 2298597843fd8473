-- No two families have one name, and there is at most one text of metrics.
use Rattle.std.proofs.Common.{◌≡◌, ◌∙◌, ℕ, ℤ, Bool, true, false, not, ◌&&◌, Option, Some, None, Ok, Err, Result, List, [], ◌∷◌, ◌++◌, ap, sym}
use Rattle.std.proofs.lemmas.Bool.{and_parts, not-true, or_parts}
use Rattle.std.specs.List.{AllByRecursion, IsDistinct, list_any}
use Rattle.std.specs.Str.{bytes_eq}
use Rattle.ipmi_text.specs.Laws.{DecimalIsUnique}
use Rattle.ipmi_text.specs.Texts.{AreTexts}
use Rattle.ipmi_records.specs.Prelude.{all_thresholds, known, sdr_view_of, sensor_of}
use Rattle.ipmi_records.specs.declared.column.KnownReading.{KnownReading}
use Rattle.ipmi_records.specs.declared.sdr.SdrFault.{SdrFault}
use Rattle.ipmi_records.specs.declared.sdr.SdrView.{SdrView}
use Rattle.ipmi_records.specs.declared.sensor.Sensor.{Sensor}
use Rattle.ipmi_sensors.specs.Sensors.{Found}
use Rattle.ipmi_metrics.specs.Families.{families, with_head}
use Rattle.ipmi_metrics.specs.Labels.{name_labels, threshold_label}
use Rattle.ipmi_metrics.specs.Laws.{MetricsTextIsUnique}
use Rattle.ipmi_metrics.specs.Measure.{is_measure, measure_of}
use Rattle.ipmi_metrics.specs.Metrics.{AreSamples, AreSamplesIn, IsFamily}
use Rattle.ipmi_metrics.specs.Samples.{AreSamplesOf, AreSamplesOfSensor, IfSo, IsNumber, IsSampleIfAny, IsThresholdSample, IsValueSample, sample, threshold_of}
use Rattle.ipmi_metrics.specs.declared.families.Family.{Family}

-- ---- names

abbrev pub all_differ : List (List ℕ) → Bool
all_differ [] = true
all_differ (name ∷ names) = not (list_any (bytes_eq name) names) && all_differ names

none_same : (name : List ℕ) (names : List (List ℕ)) → list_any (bytes_eq name) names ≡ false → AllByRecursion (λ (other : List ℕ). bytes_eq name other ≡ false) names
none_same name [] none = tt
none_same name (other ∷ names) none = let parts = or_parts _ _ none in (parts.0, none_same name names parts.1)

pub distinct_from_test : (names : List (List ℕ)) → all_differ names ≡ true → IsDistinct bytes_eq names
unfolding IsDistinct
distinct_from_test [] differ = tt
distinct_from_test (name ∷ names) differ =
    let parts = and_parts _ _ differ in
    (none_same name names (not-true _ parts.0), distinct_from_test names parts.1)

-- ---- texts

-- at most one text satisfies this
abbrev One : (List ℕ → Type 0) → Type 0
One IsText = (text other : List ℕ) → IsText text → IsText other → text ≡ other

one_of_all : {A : Type 0} (IsText : A → List ℕ → Type 0) → ((x : A) → One (IsText x)) → (xs : List A) → One (AreTexts IsText xs)
one_of_all IsText one [] text other is also = is ∙ sym also
one_of_all IsText one (x ∷ xs) text other is also =
    is.text_is ∙ rw (one x is.first also.first is.is_first also.is_first, one_of_all IsText one xs is.rest also.rest is.are_rest also.are_rest) (sym also.text_is)

one_number : DecimalIsUnique → (value : Option ℤ) → One (IsNumber value)
one_number decimals None text other is also = is ∙ sym also
one_number decimals (Some value) text other is also = decimals value text other is also

one_sample : DecimalIsUnique → (name labels : List ℕ) (value : Option ℤ) → One (IsValueSample name labels value)
one_sample decimals name labels value text other is also =
    is.text_is ∙ ap (sample name labels) (one_number decimals value is.number also.number is.is_number also.is_number) ∙ sym also.text_is

one_if_so : (so : Bool) (IsText : List ℕ → Type 0) → One IsText → One (IfSo so IsText)
one_if_so true IsText one = one
one_if_so false IsText one = λ text other is also. is ∙ sym also

one_if_any : DecimalIsUnique → (labels : List ℕ) (value : Option ℤ) → One (IsSampleIfAny labels value)
one_if_any decimals labels None = λ text other is also. is ∙ sym also
one_if_any decimals labels (Some value) = one_sample decimals _ labels (Some value)

one_of_sensor : DecimalIsUnique → (family : Family) (id : ℕ) (view : SdrView) (reading : KnownReading) (sensor : Sensor)
    → One (AreSamplesOfSensor family id view reading sensor)
one_of_sensor decimals (Family.Value measure) id view reading sensor =
    one_if_so (is_measure measure (measure_of view)) _ (one_sample decimals _ _ _)
one_of_sensor decimals (Family.State measure) id view reading sensor =
    one_if_so (is_measure measure (measure_of view)) _ (λ text other is also. is ∙ sym also)
one_of_sensor decimals Family.Threshold id view reading sensor =
    one_of_all (IsThresholdSample (name_labels id view) view)
    (λ threshold. one_if_any decimals (name_labels id view ++ threshold_label threshold) (threshold_of view threshold)) all_thresholds
one_of_sensor decimals Family.Info id view reading sensor = λ text other is also. is ∙ sym also

one_of : DecimalIsUnique → (family : Family) (id : ℕ) (view : SdrView) (reading : KnownReading) (sensor : Option Sensor)
    → One (AreSamplesOf family id view reading sensor)
one_of decimals family id view reading None = λ text other is also. is ∙ sym also
one_of decimals family id view reading (Some sensor) = one_of_sensor decimals family id view reading sensor

one_in : DecimalIsUnique → (family : Family) (id : ℕ) (view : Result SdrView SdrFault) (reading : KnownReading) → One (AreSamplesIn family id view reading)
one_in decimals family id (Err fault) reading = λ text other is also. is ∙ sym also
one_in decimals family id (Ok view) reading = one_of decimals family id view reading (sensor_of view)

one_family : DecimalIsUnique → (found : List Found) (family : Family) → One (IsFamily found family)
one_family decimals found family text other is also =
    let one : is.samples ≡ also.samples = one_of_all (AreSamples family) (λ (each : Found). one_in decimals family each.id (sdr_view_of each.bytes) (known each.reading))
    found is.samples also.samples is.are_samples also.are_samples in
    is.text_is ∙ ap (with_head family) one ∙ sym also.text_is

pub one_metrics_text : DecimalIsUnique → MetricsTextIsUnique
one_metrics_text decimals found info is_up dialect text other is also =
    is.text_is ∙ rw (one_of_all (IsFamily found) (λ family. one_family decimals found family) families is.sensors also.sensors is.are_families also.are_families)
    (sym also.text_is)
