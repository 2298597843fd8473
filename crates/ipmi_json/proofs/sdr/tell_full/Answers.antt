use Rattle.std.proofs.Common.{refl}
use Rattle.std.proofs.lemmas.Result.{on_ok_weaker}
use Rattle.ipmi_json.proofs.MemberLemmas.{joined, told_some}
use Rattle.ipmi_json.proofs.sdr.tell_full.Goals as goal

pub returns : goal.returns
returns g c =
    let sensor = c.sensor-sensor.ensures in
    let one = rw sensor at c.in_ok-tell_sensor.ensures in
    let two = c.in_ok-tell_value.ensures in
    let three = rw sensor at c.in_ok-tell_shown.ensures in
    on_ok_weaker c.tell_thresholds.result
    (λ four. told_some (joined (joined (joined one two.tells) three) four.tells) (record {
      value = two.ms;
      thresholds = four.ms;
      are_value = rw (c.value_shown-value.ensures, c.shown_of.ensures, c.units.ensures, sensor) at two.are;
      are_thresholds = four.are;
      are = refl;
    })) c.tell_thresholds.ensures
