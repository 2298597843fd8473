use Rattle.std.proofs.Common.{sym}
use Rattle.ipmi_text.proofs.TextsLemmas.{texts_more}
use Rattle.ipmi_check.specs.Performance.{IsDatumOf}
use Rattle.ipmi_check.proofs.performance.push_all.Goals as goal

pub loop-sensor-preserved : goal.loop-sensor-preserved
loop-sensor-preserved c =
    texts_more IsDatumOf c.args.found.now c.loop-sensor.sensor-index c.sensor-item.result _ _ _ c.loop-sensor-test.true
    c.loop-sensor.invariant (rw (sym c.sensor-item.is) c.in_ok-push_datum_of.ensures)
