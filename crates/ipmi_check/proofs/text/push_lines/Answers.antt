use Rattle.std.proofs.Common.{List, ℕ, sym}
use Rattle.ipmi_text.proofs.TextsLemmas.{texts_more}
use Rattle.ipmi_sensors.specs.Sensors.{Found}
use Rattle.ipmi_check.specs.Standing.{standing_of}
use Rattle.ipmi_check.specs.Text.{IsLine}
use Rattle.ipmi_check.proofs.text.push_lines.Goals as goal

pub loop-sensor-preserved : goal.loop-sensor-preserved
loop-sensor-preserved c =
    texts_more (λ (one : Found) (line : List ℕ). IsLine (standing_of c.args.lacks.now one) one line) c.args.found.now c.loop-sensor.sensor-index
    c.sensor-item.result _ _ _ c.loop-sensor-test.true c.loop-sensor.invariant (rw (sym c.sensor-item.is) c.in_ok-push_line.ensures)
