use Rattle.std.proofs.Common.{◌∙◌, refl}
use Rattle.ipmi_events.proofs.LineLemmas.{line_made}
use Rattle.ipmi_events.proofs.sensor_lines.line_of_sensor.Goals as goal

pub returns : goal.returns
returns c = line_made c.args.view.now c.args.sensor.now c.args.reading _ _ _ _ _ _ _ _ _ _ c.in_ok-line.ensures.bytes c.in_ok-push_head_columns.ensures c.in_ok-push_reading_column.ensures c.status_in_words.ensures c.in_ok-push_column.ensures (c.severity_column-severity.ensures ∙ rw c.sensor_severity.ensures refl) c.in_ok-push_column-2.ensures c.with_thresholds.ensures c.in_ok-push_thresholds.ensures c.in_ok-push_str.ensures.bytes
