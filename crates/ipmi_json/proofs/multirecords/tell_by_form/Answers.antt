use Rattle.std.proofs.Common.{refl}
use Rattle.std.proofs.lemmas.Result.{on_ok_weaker}
use Rattle.ipmi_json.proofs.MemberLemmas.{joined, told_some}
use Rattle.ipmi_json.proofs.multirecords.tell_by_form.Goals as goal

pub returns-in_ok-tell_number-in-Dc : goal.returns-in_ok-tell_number-in-Dc
returns-in_ok-tell_number-in-Dc g c =
    let head = rw c.dc_word.ensures at c.in_ok-tell_head-in-Dc.ensures in
    let numbers = rw c.of-fields.ensures at c.in_ok-tell_number-in-Dc.ensures in
    rw c.in-Dc.is (on_ok_weaker c.tell_ranges.result
    (λ h. told_some (joined (joined head numbers) h.tells)
    (record { ranges = h.ms; are_ranges = rw c.of-fields.ensures at h.are; are = refl }))
    c.tell_ranges.ensures)

pub returns-in_ok-tell_head-in-Access : goal.returns-in_ok-tell_head-in-Access
returns-in_ok-tell_head-in-Access g c =
    rw c.in-Access.is (on_ok_weaker c.tell_access.result
    (λ h. told_some (joined c.in_ok-tell_head-in-Access.ensures h) refl) c.tell_access.ensures)
