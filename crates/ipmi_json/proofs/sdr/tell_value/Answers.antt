use Rattle.std.proofs.Common.{refl}
use Rattle.std.proofs.lemmas.Result.{on_ok_weaker}
use Rattle.ipmi_json.proofs.MemberLemmas.{joined, told_some}
use Rattle.ipmi_json.proofs.sdr.tell_value.Goals as goal

pub returns : goal.returns
returns g c = on_ok_weaker c.put-2.result (λ unit. told_some (joined c.in_ok-put.ensures (rw c.in_ok-unit_or_null.ensures at unit))
    (record { number = _; is_number = c.in_ok-decimal_or_null.ensures; are = refl })) c.put-2.ensures
