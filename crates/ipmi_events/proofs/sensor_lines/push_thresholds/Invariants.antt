use Rattle.std.proofs.Common.{option_map, string_bytes, take}
use Rattle.ipmi_events.specs.SensorLines.{AppendsColumns, from_lowest}
use Rattle.ipmi_events.proofs.sensor_lines.push_thresholds.Given as goal

abbrev pub invariant-loop-threshold : goal.invariant-loop-threshold
invariant-loop-threshold l = AppendsColumns (option_map (λ full. full.now) l.fn.full) (take l.threshold-index from_lowest) (string_bytes l.fn.line) (string_bytes l.line)
