use Rattle.ipmi_events.proofs.SensorExistenceLemmas.{sensor_block}
use Rattle.ipmi_events.proofs.sensor_laws.each_record_has_a_sensor_block.Goals as goal

pub returns : goal.returns
returns c = sensor_block c.each_record_has_columns.ensures.column c.each_record_has_columns.ensures.thresholds c.each_record_has_texts.ensures.block
