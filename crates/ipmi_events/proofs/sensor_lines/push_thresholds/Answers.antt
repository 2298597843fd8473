use Rattle.std.proofs.Common.{option_map, take}
use Rattle.std.proofs.lemmas.List.{take_more}
use Rattle.ipmi_events.specs.Below.{Threshold}
use Rattle.ipmi_events.specs.SensorLines.{from_lowest}
use Rattle.ipmi_events.proofs.ThresholdLemmas.{column_appended}
use Rattle.ipmi_events.proofs.sensor_lines.push_thresholds.Goals as goal

pub loop-threshold-preserved : goal.loop-threshold-preserved
loop-threshold-preserved c =
    rw (take_more from_lowest c.loop-threshold.threshold-index Threshold.UpperNonRecoverable c.loop-threshold-test.true) (column_appended (option_map (λ full. full.now) c.args.full) (take c.loop-threshold.threshold-index from_lowest) _ _ _ _ _ c.loop-threshold.invariant c.in_ok-push_str.ensures.bytes c.in_ok-push_threshold.ensures)
