use Rattle.std.proofs.lemmas.Result.{on_ok_weaker}
use Rattle.ipmi_json.proofs.MemberLemmas.{joined}
use Rattle.ipmi_json.proofs.sdr.tell_fru.Goals as goal

pub returns : goal.returns
returns g c =
    let access = rw (c.slave_address-access.ensures, c.locator.ensures) at c.in_ok-put.ensures in
    let id = rw (c.integer_or_null.ensures, c.fru_id.ensures) at c.in_ok-put-2.ensures in
    let address = rw (c.integer_or_null-own.ensures, c.fru_address.ensures) at c.in_ok-put-3.ensures in
    let logical = rw c.is_logical.ensures at c.in_ok-put-4.ensures in
    let lun = rw (c.from.ensures, c.lun.ensures) at c.in_ok-put-5.ensures in
    on_ok_weaker c.tell_entity.result
    (λ entity. joined (joined (joined (joined (joined access id) address) logical) lun) (rw c.locator-2.ensures at entity))
    c.tell_entity.ensures
