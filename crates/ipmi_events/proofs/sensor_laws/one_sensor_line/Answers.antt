use Rattle.ipmi_events.proofs.SensorUniqueLemmas.{one_sensor_line}
use Rattle.ipmi_events.proofs.sensor_laws.one_sensor_line.Goals as goal

pub returns : goal.returns
returns c = one_sensor_line c.one_reading_column.ensures c.one_decimal_of_a_value.ensures c.one_sdr_line.ensures
