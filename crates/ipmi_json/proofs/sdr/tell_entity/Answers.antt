use Rattle.std.proofs.lemmas.Result.{on_ok_weaker}
use Rattle.ipmi_json.proofs.MemberLemmas.{joined}
use Rattle.ipmi_json.proofs.sdr.tell_entity.Goals as goal

pub returns : goal.returns
returns g c =
    let entity = rw c.from.ensures at c.in_ok-put.ensures in
    on_ok_weaker c.put-2.result
    (λ last. joined (joined entity c.in_ok-put_printed.ensures) (rw c.from-instance.ensures at last))
    c.put-2.ensures
