use Rattle.std.proofs.lemmas.Result.{on_ok_weaker}
use Rattle.ipmi_json.proofs.MemberLemmas.{joined}
use Rattle.ipmi_json.proofs.sdr.tell_numbers.Goals as goal

pub returns : goal.returns
returns g c =
    let owner = rw c.from.ensures at c.in_ok-put.ensures in
    let lun = rw c.from-2.ensures at c.in_ok-put-2.ensures in
    on_ok_weaker c.put-3.result
    (λ last. joined (joined owner lun) (rw c.from-number.ensures at last))
    c.put-3.ensures
