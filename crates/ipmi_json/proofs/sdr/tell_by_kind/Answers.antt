use Rattle.std.proofs.Common.{refl, rules}
use Rattle.std.proofs.lemmas.Result.{on_ok_weaker}
use Rattle.ipmi_json.proofs.MemberLemmas.{told_some}
use Rattle.ipmi_json.proofs.sdr.tell_by_kind.Goals as goal

pub returns-in-Full : goal.returns-in-Full
returns-in-Full g c =
    let status = rw c.in-Full.is at c.status_of-status.ensures in
    rw c.in-Full.is (rw status at c.tell_full.ensures)

pub returns-in-EventOnly : goal.returns-in-EventOnly
returns-in-EventOnly g c =
    rw c.in-EventOnly.is (on_ok_weaker c.tell_sensor.result (λ h. told_some h refl) (rw c.sensor.ensures at c.tell_sensor.ensures))

pub returns-in-Compact : goal.returns-in-Compact
returns-in-Compact g c = search rules

pub returns-in-Generic : goal.returns-in-Generic
returns-in-Generic g c =
    let bytes = rw c.in-Generic.is at c.bytes.ensures.value in
    rw c.in-Generic.is (on_ok_weaker c.tell_generic.result (λ h. told_some h refl) (rw bytes at c.tell_generic.ensures))

pub returns-in-Fru : goal.returns-in-Fru
returns-in-Fru g c = rw c.in-Fru.is (on_ok_weaker c.tell_fru.result (λ h. told_some h refl) c.tell_fru.ensures)

pub returns-in-Controller : goal.returns-in-Controller
returns-in-Controller g c =
    rw c.in-Controller.is (on_ok_weaker c.tell_controller.result (λ h. told_some h refl) (rw c.locator-in-Controller.ensures at c.tell_controller.ensures))

pub returns-in-Other : goal.returns-in-Other
returns-in-Other g c = rw c.in-Other.is (on_ok_weaker c.put_members.result (λ h. told_some h refl) c.put_members.ensures)
