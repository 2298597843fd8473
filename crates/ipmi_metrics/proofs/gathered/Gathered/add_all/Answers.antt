use Rattle.std.proofs.Common.{sym}
use Rattle.ipmi_metrics.specs.Metrics.{AreSamples}
use Rattle.ipmi_text.proofs.TextsLemmas.{texts_more}
use Rattle.ipmi_metrics.proofs.gathered.Gathered.add_all.Goals as goal

pub loop-sensor-preserved : goal.loop-sensor-preserved
loop-sensor-preserved c = λ family.
    texts_more (AreSamples family) c.args.found.now c.loop-sensor.sensor-index c.sensor-item.result _ _ _ c.loop-sensor-test.true
    (c.loop-sensor.invariant family) (rw (sym c.sensor-item.is) (c.in_ok-add_found.ensures family))
