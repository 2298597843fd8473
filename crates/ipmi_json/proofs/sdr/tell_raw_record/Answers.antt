use Rattle.std.proofs.lemmas.Result.{on_ok_weaker}
use Rattle.ipmi_json.proofs.MemberLemmas.{joined}
use Rattle.ipmi_json.proofs.sdr.tell_raw_record.Goals as goal

pub returns : goal.returns
returns g c =
    let told = rw (c.from.ensures, c.from-2.ensures) at c.in_ok-put_members.ensures in
    on_ok_weaker c.put_raw.result (λ last. joined told last) c.put_raw.ensures
