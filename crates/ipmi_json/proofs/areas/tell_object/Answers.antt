use Rattle.std.proofs.Common.{refl}
use Rattle.std.proofs.lemmas.Result.{on_ok_weaker}
use Rattle.ipmi_json.proofs.AreaLemmas.{within_area}
use Rattle.ipmi_json.proofs.MemberLemmas.{joined, object_told, told_some}
use Rattle.ipmi_json.proofs.areas.tell_object.Goals as goal

pub returns : goal.returns
returns g c =
    let area = c.args.area.now in
    let lead = c.in_ok-tell_lead.ensures in
    let fields = rw (c.field_keys.ensures, c.kind.ensures) at c.in_ok-tell_fields.ensures in
    on_ok_weaker c.end.result
    (λ ends. told_some (object_told (within_area area lead.ms lead.are) c.in_ok-begin.ensures (joined lead.tells fields) ends)
    (record { value = _; is_value = record { lead = lead.ms; are_lead = lead.are; is = refl }; are = refl }))
    c.end.ensures
