use Rattle.std.proofs.Common.{◌∙◌}
use Rattle.std.proofs.lemmas.Result.{on_ok_weaker}
use Rattle.ipmi_metrics.proofs.GatheredLemmas.{sensor_added}
use Rattle.ipmi_metrics.proofs.gathered.Gathered.add_sensor.Goals as goal

pub returns : goal.returns
returns c = on_ok_weaker c.add.result
    (λ by. sensor_added c.args.id c.args.view.now c.args.reading c.args.sensor.now c.args.self.now
    (record {
      by_measure = c.add.new.self;
      thresholds = c.push_thresholds.new.text;
      infos = c.push_info.new.text;
      labels = c.push_type_part.new.text;
      name = c.set_labels.new.name;
    }) _ _ _ _ _ _ c.of-measure.ensures c.shown_of.ensures
    c.value_of-value.ensures c.sensor_severity-severity.ensures c.in_ok-set_labels.ensures
    (c.as_str-3.ensures.value ∙ c.in_ok-push_type_part.ensures)
    (rw c.as_str.ensures.value at c.in_ok-push_thresholds.ensures) (rw c.as_str-2.ensures.value at c.in_ok-push_info.ensures) by)
    c.add.ensures
