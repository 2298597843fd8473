use Rattle.std.proofs.Common.{refl}
use Rattle.std.proofs.lemmas.Result.{on_ok_weaker}
use Rattle.ipmi_json.proofs.MemberLemmas.{joined, told_some}
use Rattle.ipmi_json.proofs.sdr.tell_record.Goals as goal

pub returns : goal.returns
returns g c =
    let head = rw (c.record_type.ensures, c.kind_word.ensures) at c.in_ok-tell_head.ensures in
    let told = c.in_ok-tell_by_kind.ensures in
    on_ok_weaker c.put_raw.result (λ raw. told_some (joined (joined (joined head c.in_ok-tell_name.ensures) told.tells) (rw c.bytes.ensures.value at raw))
    (record { told = told.ms; are_told = told.are; are = refl })) c.put_raw.ensures
