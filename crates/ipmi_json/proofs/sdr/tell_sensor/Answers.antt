use Rattle.std.proofs.lemmas.Result.{on_ok_weaker}
use Rattle.ipmi_json.proofs.MemberLemmas.{joined}
use Rattle.ipmi_json.proofs.sdr.tell_sensor.Goals as goal

pub returns : goal.returns
returns g c =
    let type = rw c.from.ensures at c.in_ok-put.ensures in
    let named = joined (joined c.in_ok-tell_numbers.ensures c.in_ok-tell_entity.ensures) type in
    on_ok_weaker c.put-2.result
    (λ last. joined (joined named c.in_ok-put_printed.ensures) (rw c.from-event_type.ensures at last))
    c.put-2.ensures
