use Rattle.std.proofs.lemmas.Result.{on_ok_weaker}
use Rattle.ipmi_json.proofs.MemberLemmas.{joined}
use Rattle.ipmi_json.proofs.sdr.tell_controller.Goals as goal

pub returns : goal.returns
returns g c =
    let address = rw c.slave_address-address.ensures at c.in_ok-put.ensures in
    on_ok_weaker c.tell_entity.result (λ entity. joined address entity) c.tell_entity.ensures
