use Rattle.std.proofs.Common.{string_bytes, take}
use Rattle.ipmi_text.specs.Appended.{Appends}
use Rattle.ipmi_records.specs.Prelude.{all_thresholds}
use Rattle.ipmi_records.specs.declared.sdr.SdrView.{SdrView}
use Rattle.ipmi_metrics.specs.Samples.{IsThresholdSample}
use Rattle.ipmi_text.specs.Texts.{AreTexts}
use Rattle.ipmi_metrics.proofs.samples.push_all_thresholds.Given as goal

-- The samples of the thresholds so far.
abbrev pub invariant-loop-threshold : goal.invariant-loop-threshold
invariant-loop-threshold l =
    Appends (AreTexts (IsThresholdSample l.labels (SdrView.Full l.full)) (take l.threshold-index all_thresholds)) (string_bytes l.fn.text) (string_bytes l.text)
