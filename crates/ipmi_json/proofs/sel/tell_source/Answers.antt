use Rattle.std.proofs.lemmas.Result.{on_ok_weaker}
use Rattle.ipmi_json.proofs.MemberLemmas.{joined}
use Rattle.ipmi_json.proofs.sel.tell_source.Goals as goal

pub returns : goal.returns
returns g c =
    let type = rw (c.from-sensor_type.ensures, c.sensor_type.ensures) at c.in_ok-put.ensures in
    let name = rw c.sensor_type-2.ensures at c.in_ok-put_printed.ensures in
    let number = rw (c.from-number.ensures, c.sensor_number.ensures) at c.in_ok-put-2.ensures in
    on_ok_weaker c.tell_name.result
    (λ last. joined (joined (joined (joined c.in_ok-tell_generator.ensures type) name) number) last)
    c.tell_name.ensures
