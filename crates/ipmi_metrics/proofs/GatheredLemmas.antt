-- The samples of all families, one sensor after another.
use Rattle.std.proofs.Common.{◌≡◌, ◌∙◌, ℕ, ℤ, Bool, true, false, Option, OnOk, Result, List, [], ◌∷◌, ◌++◌, append-nil, ap, codes, refl, string_bytes, subst, sym}
use Rattle.std.proofs.lemmas.Result.{on_ok_weaker}
use Rattle.std.specs.declared.alloc.AllocError.{AllocError}
use Rattle.ipmi_text.specs.Appended.{Appends}
use Rattle.ipmi_text.specs.Texts.{AreTexts}
use Rattle.ipmi_records.specs.Prelude.{all_thresholds, shown_of}
use Rattle.ipmi_records.specs.declared.column.KnownReading.{KnownReading}
use Rattle.ipmi_records.specs.declared.column.Shown.{Shown}
use Rattle.ipmi_records.specs.declared.sdr.SdrView.{SdrView}
use Rattle.ipmi_records.specs.declared.sensor.Sensor.{Sensor}
use Rattle.ipmi_events.specs.Worst.{sensor_severity}
use Rattle.ipmi_events.specs.declared.severity.Severity.{Severity}
use Rattle.ipmi_sensors.specs.Sensors.{Found}
use Rattle.ipmi_metrics.specs.Families.{family_name}
use Rattle.ipmi_metrics.specs.Gathered.{Adds, AddsMeasured, AddsTo, IsFamilyOf, measured_in, samples_in, with_measured}
use Rattle.ipmi_metrics.specs.Labels.{info_labels, name_labels, sensor_labels, type_part}
use Rattle.ipmi_metrics.specs.Measure.{is_measure, measure_of}
use Rattle.ipmi_metrics.specs.Metrics.{AreSamples, IsFamily}
use Rattle.ipmi_metrics.specs.Samples.{AreSamplesOfSensor, IfSo, IsThresholdSample, IsValueSample, sample, severity_number, value_of}
use Rattle.ipmi_metrics.specs.declared.families.Family.{Family}
use Rattle.ipmi_metrics.specs.declared.gathered.ByMeasure.{ByMeasure}
use Rattle.ipmi_metrics.specs.declared.gathered.Gathered.{Gathered}
use Rattle.ipmi_metrics.specs.declared.gathered.Measured.{Measured}
use Rattle.ipmi_metrics.specs.declared.measure.Measure.{Measure}

-- ---- the samples of one measure replaced

same_measure : (wanted measure : Measure) → is_measure wanted measure ≡ true → wanted ≡ measure
same_measure Measure.Temperature Measure.Temperature is = refl
same_measure Measure.FanSpeed Measure.FanSpeed is = refl
same_measure Measure.Voltage Measure.Voltage is = refl
same_measure Measure.Current Measure.Current is = refl
same_measure Measure.Power Measure.Power is = refl
same_measure Measure.Other Measure.Other is = refl
same_measure wanted measure is = cc

at_measure : (all : ByMeasure) (measure : Measure) (after : Measured) → measured_in (with_measured all measure after) measure ≡ after
at_measure all Measure.Temperature after = refl
at_measure all Measure.FanSpeed after = refl
at_measure all Measure.Voltage after = refl
at_measure all Measure.Current after = refl
at_measure all Measure.Power after = refl
at_measure all Measure.Other after = refl

at_other : (all : ByMeasure) (wanted measure : Measure) (after : Measured) → is_measure wanted measure ≡ false
    → measured_in (with_measured all measure after) wanted ≡ measured_in all wanted
at_other all Measure.Temperature Measure.Temperature after not = cc
at_other all Measure.FanSpeed Measure.FanSpeed after not = cc
at_other all Measure.Voltage Measure.Voltage after not = cc
at_other all Measure.Current Measure.Current after not = cc
at_other all Measure.Power Measure.Power after not = cc
at_other all Measure.Other Measure.Other after not = cc
at_other all wanted measure after not = refl

pub added_to : (measure kind : Measure) (labels : List ℕ) (value : Option ℤ) (severity : Option Severity) (result : Result (Unit {0}) AllocError)
    (old : ByMeasure) (after : Measured) → measure ≡ kind → OnOk result (AddsMeasured measure labels value severity (measured_in old kind) after)
    → OnOk result (AddsTo measure labels value severity old (with_measured old kind after))
added_to measure kind labels value severity result old after is = on_ok_weaker result (λ adds. record {
  after = after;
  adds = subst (λ (one : Measure). AddsMeasured measure labels value severity (measured_in old one) after) (sym is) adds;
  new_is = ap (λ (one : Measure). with_measured old one after) (sym is);
})

-- a text of the measure is appended, and no text of another
added_if : (text_in : Measured → List ℕ) (IsText : Measure → List ℕ → Type 0) (so : Bool) (wanted measure : Measure) (old new : ByMeasure) (after : Measured)
    → is_measure wanted measure ≡ so → new ≡ with_measured old measure after → Appends (IsText measure) (text_in (measured_in old measure)) (text_in after)
    → Appends (IfSo so (IsText wanted)) (text_in (measured_in old wanted)) (text_in (measured_in new wanted))
added_if text_in IsText true wanted measure old new after is new_is adds =
    let after_is : measured_in new measure ≡ after = ap (λ (all : ByMeasure). measured_in all measure) new_is ∙ at_measure old measure after in
    let here : Appends (IsText measure) (text_in (measured_in old measure)) (text_in (measured_in new measure)) = rw after_is adds in
    subst (λ (one : Measure). Appends (IsText one) (text_in (measured_in old one)) (text_in (measured_in new one))) (sym (same_measure wanted measure is)) here
added_if text_in IsText false wanted measure old new after is new_is adds =
    let kept : measured_in new wanted ≡ measured_in old wanted = ap (λ (all : ByMeasure). measured_in all wanted) new_is ∙ at_other old wanted measure after is in
    record { part = []; is_text = refl; text_is = ap text_in kept ∙ sym (append-nil _) }

-- ---- one sensor more

pub adds_none : (AreSamples : Family → List ℕ → Type 0) (all : Gathered) → ((family : Family) → AreSamples family []) → Adds AreSamples all all
adds_none AreSamples all none = λ family. record { part = []; is_text = none family; text_is = sym (append-nil _) }

module _ (id : ℕ) (view : SdrView) (reading : KnownReading) (sensor : Sensor) (old new : Gathered) where
  sensor_is_added : Appends (AreTexts (IsThresholdSample (name_labels id view) view) all_thresholds) (string_bytes old.thresholds) (string_bytes new.thresholds)
      → string_bytes new.infos ≡ string_bytes old.infos ++ sample (family_name Family.Info) (info_labels (name_labels id view) sensor) (codes "1")
      → AddsTo (measure_of view) (sensor_labels (name_labels id view) (measure_of view) sensor) (value_of view (shown_of sensor reading))
      (sensor_severity sensor (shown_of sensor reading)) old.by_measure new.by_measure
      → Adds (λ family. AreSamplesOfSensor family id view reading sensor) old new
  sensor_is_added thresholds infos by (Family.Value wanted) =
      added_if (λ all. string_bytes all.values)
      (λ one. IsValueSample (family_name (Family.Value one)) (sensor_labels (name_labels id view) one sensor) (value_of view (shown_of sensor reading)))
      (is_measure wanted (measure_of view)) wanted (measure_of view) old.by_measure new.by_measure by.after refl by.new_is by.adds.value_is
  sensor_is_added thresholds infos by (Family.State wanted) =
      added_if (λ all. string_bytes all.states)
      (λ one text. text ≡ sample (family_name (Family.State one)) (sensor_labels (name_labels id view) one sensor) (severity_number (sensor_severity sensor (shown_of sensor reading))))
      (is_measure wanted (measure_of view)) wanted (measure_of view) old.by_measure new.by_measure by.after refl by.new_is
      (record { part = _; is_text = refl; text_is = by.adds.state_is })
  sensor_is_added thresholds infos by Family.Threshold = thresholds
  sensor_is_added thresholds infos by Family.Info = record { part = _; is_text = refl; text_is = infos }

  pub sensor_added : (measure : Measure) (shown : Shown) (value : Option ℤ) (severity : Option Severity) (names labels : List ℕ) → measure ≡ measure_of view
      → shown ≡ shown_of sensor reading → value ≡ value_of view shown → severity ≡ sensor_severity sensor (shown_of sensor reading)
      → names ≡ name_labels id view → labels ≡ names ++ type_part measure sensor
      → Appends (AreTexts (IsThresholdSample names view) all_thresholds) (string_bytes old.thresholds) (string_bytes new.thresholds)
      → string_bytes new.infos ≡ string_bytes old.infos ++ sample (family_name Family.Info) (info_labels names sensor) (codes "1")
      → AddsTo measure labels value severity old.by_measure new.by_measure
      → Adds (λ family. AreSamplesOfSensor family id view reading sensor) old new
  sensor_added measure shown value severity names labels measure_is shown_is value_is severity_is names_are labels_are thresholds infos by =
      sensor_is_added (rw names_are at thresholds) (rw names_are at infos) (rw (labels_are, names_are, value_is, shown_is, severity_is, measure_is) at by)

-- ---- all families

pub only_part : (IsText : List ℕ → Type 0) (none text : List ℕ) → none ≡ [] → Appends IsText none text → IsText text
only_part IsText none text none_is is = subst IsText (sym (is.text_is ∙ rw none_is refl)) is.is_text

pub from_none : (AreSamples : Family → List ℕ → Type 0) (none all : Gathered) → ((family : Family) → samples_in none family ≡ []) → Adds AreSamples none all
    → (family : Family) → AreSamples family (samples_in all family)
from_none AreSamples none all are_none adds family = only_part (AreSamples family) _ _ (are_none family) (adds family)

pub families_made : (found : List Found) (all : Gathered) → ((family : Family) → AreTexts (AreSamples family) found (samples_in all family))
    → (families : List Family) (text : List ℕ) → AreTexts (IsFamilyOf all) families text → AreTexts (IsFamily found) families text
families_made found all samples [] text are = are
families_made found all samples (family ∷ families) text are = record {
  first = are.first;
  rest = are.rest;
  is_first = record { samples = samples_in all family; are_samples = samples family; text_is = are.is_first };
  are_rest = families_made found all samples families are.rest are.are_rest;
  text_is = are.text_is;
}
