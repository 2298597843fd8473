use Rattle.std.proofs.lemmas.Result.{on_ok_weaker}
use Rattle.ipmi_json.proofs.MemberLemmas.{joined}
use Rattle.ipmi_json.proofs.record.tell_head.Goals as goal

pub returns : goal.returns
returns g c =
    let id = rw c.from.ensures at c.in_ok-put-2.ensures in
    let type = rw c.from-2.ensures at c.in_ok-put-3.ensures in
    on_ok_weaker c.put-4.result
    (λ kind. joined (joined (joined c.in_ok-put.ensures id) type) kind)
    c.put-4.ensures
