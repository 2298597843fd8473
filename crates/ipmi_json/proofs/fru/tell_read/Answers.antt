use Rattle.std.proofs.Common.{refl}
use Rattle.std.proofs.lemmas.Result.{on_ok_weaker}
use Rattle.ipmi_json.proofs.MemberLemmas.{joined, told_some}
use Rattle.ipmi_json.proofs.fru.tell_read.Goals as goal

pub returns : goal.returns
returns g c =
    let content = c.in_ok-tell_content.ensures in
    on_ok_weaker c.tell_bytes.result
    (λ bytes. told_some (joined (joined c.in_ok-tell_head.ensures content.tells) bytes)
    (record { content = content.ms; are_content = rw c.requires at content.are; are = refl }))
    c.tell_bytes.ensures
