use Rattle.std.proofs.lemmas.Result.{on_ok_weaker}
use Rattle.ipmi_json.proofs.MemberLemmas.{joined}
use Rattle.ipmi_json.proofs.fru.tell_bare.Goals as goal

pub returns : goal.returns
returns g c = on_ok_weaker c.tell_bytes.result
    (λ bytes. joined (joined c.in_ok-tell_head.ensures c.in_ok-tell_no_content.ensures) bytes)
    c.tell_bytes.ensures
