use Rattle.ipmi_events.proofs.SensorExistenceLemmas.{sensor_line}
use Rattle.ipmi_events.proofs.sensor_laws.each_record_has_a_sensor_line.Goals as goal

pub returns : goal.returns
returns c = sensor_line c.each_record_has_columns.ensures.column c.each_value_has_a_decimal.ensures c.each_record_has_texts.ensures.line
