use Rattle.ipmi_records.specs.Prelude.{all_thresholds}
use Rattle.ipmi_records.specs.declared.sdr.SdrView.{SdrView}
use Rattle.ipmi_metrics.specs.Samples.{IsThresholdSample}
use Rattle.ipmi_text.proofs.TextsLemmas.{texts_more}
use Rattle.ipmi_metrics.proofs.samples.push_all_thresholds.Goals as goal

pub loop-threshold-preserved : goal.loop-threshold-preserved
loop-threshold-preserved c =
    texts_more (IsThresholdSample c.args.labels.now (SdrView.Full c.args.full.now)) all_thresholds c.loop-threshold.threshold-index _ _ _ _ c.loop-threshold-test.true
    c.loop-threshold.invariant c.in_ok-push_threshold.ensures
