use Rattle.ipmi_metrics.proofs.GatheredLemmas.{added_to}
use Rattle.ipmi_metrics.proofs.gathered.ByMeasure.add.Goals as goal
use Rattle.ipmi_metrics.specs.declared.measure.Measure.{Measure}

pub returns-in-Temperature : goal.returns-in-Temperature
returns-in-Temperature c = added_to _ Measure.Temperature _ _ _ c.add.result c.args.self.now c.add.new.self c.in-Temperature.is c.add.ensures

pub returns-in-FanSpeed : goal.returns-in-FanSpeed
returns-in-FanSpeed c = added_to _ Measure.FanSpeed _ _ _ c.add-in-FanSpeed.result c.args.self.now c.add-in-FanSpeed.new.self c.in-FanSpeed.is c.add-in-FanSpeed.ensures

pub returns-in-Voltage : goal.returns-in-Voltage
returns-in-Voltage c = added_to _ Measure.Voltage _ _ _ c.add-in-Voltage.result c.args.self.now c.add-in-Voltage.new.self c.in-Voltage.is c.add-in-Voltage.ensures

pub returns-in-Current : goal.returns-in-Current
returns-in-Current c = added_to _ Measure.Current _ _ _ c.add-in-Current.result c.args.self.now c.add-in-Current.new.self c.in-Current.is c.add-in-Current.ensures

pub returns-in-Power : goal.returns-in-Power
returns-in-Power c = added_to _ Measure.Power _ _ _ c.add-in-Power.result c.args.self.now c.add-in-Power.new.self c.in-Power.is c.add-in-Power.ensures

pub returns-in-Other : goal.returns-in-Other
returns-in-Other c = added_to _ Measure.Other _ _ _ c.add-in-Other.result c.args.self.now c.add-in-Other.new.self c.in-Other.is c.add-in-Other.ensures
