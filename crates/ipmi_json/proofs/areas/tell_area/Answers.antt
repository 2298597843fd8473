use Rattle.std.proofs.Common.{refl}
use Rattle.std.proofs.lemmas.Result.{on_ok_weaker}
use Rattle.ipmi_json.proofs.MemberLemmas.{joined, told_some}
use Rattle.ipmi_json.proofs.areas.tell_area.Goals as goal

pub returns : goal.returns
returns g c =
    let v = c.in_ok-tell_value.ensures in
    on_ok_weaker c.put.result
    (λ fault. told_some (joined (rw v.are.are at v.tells) (rw (c.text_or_null.ensures, c.fault_found.ensures) at fault))
    (record { value = v.are.value; is_value = v.are.is_value; are = refl }))
    c.put.ensures
