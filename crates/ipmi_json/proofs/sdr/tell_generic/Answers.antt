use Rattle.std.proofs.lemmas.Result.{on_ok_weaker}
use Rattle.ipmi_json.proofs.MemberLemmas.{joined}
use Rattle.ipmi_json.proofs.sdr.tell_generic.Goals as goal

pub returns : goal.returns
returns g c =
    let access = rw (c.slave_address-access.ensures, c.requires) at c.in_ok-put.ensures in
    let own = rw (c.slave_address-own.ensures, c.slave_byte.ensures) at c.in_ok-put-2.ensures in
    on_ok_weaker c.tell_entity.result
    (λ entity. joined (joined access own) (rw c.requires at entity))
    c.tell_entity.ensures
