use Rattle.ipmi_events.proofs.SensorUniqueLemmas.{one_sensor_block}
use Rattle.ipmi_events.proofs.sensor_laws.one_sensor_block.Goals as goal

pub returns : goal.returns
returns c = one_sensor_block c.one_reading_column.ensures c.one_text_of_thresholds.ensures c.one_sdr_block.ensures
