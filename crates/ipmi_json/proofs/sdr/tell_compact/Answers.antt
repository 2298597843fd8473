use Rattle.std.proofs.Common.{refl}
use Rattle.std.proofs.lemmas.Result.{on_ok_weaker}
use Rattle.ipmi_json.proofs.MemberLemmas.{joined, told_some}
use Rattle.ipmi_json.proofs.sdr.tell_compact.Goals as goal

pub returns : goal.returns
returns g c =
    let one = rw c.sensor-sensor.ensures at c.in_ok-tell_sensor.ensures in
    let two = c.in_ok-tell_value.ensures in
    on_ok_weaker c.tell_shown.result
    (λ three. told_some (joined (joined one two.tells) (rw c.sensor-sensor.ensures at three))
    (record { value = two.ms; are_value = rw c.units.ensures at two.are; are = refl }))
    c.tell_shown.ensures
