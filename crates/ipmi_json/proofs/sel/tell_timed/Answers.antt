use Rattle.std.proofs.Common.{refl}
use Rattle.std.proofs.lemmas.Result.{on_ok_weaker}
use Rattle.ipmi_json.proofs.MemberLemmas.{joined, told_some}
use Rattle.ipmi_json.proofs.sel.tell_timed.Goals as goal

pub returns : goal.returns
returns g c =
    let stamp = c.time_stamp-stamp.ensures in
    let time = rw c.text_or_null-time.ensures at c.in_ok-put.ensures in
    let timed = joined time (rw (c.from.ensures, stamp) at c.in_ok-put-2.ensures) in
    let made = rw (c.from-manufacturer.ensures, c.manufacturer_id.ensures) at c.in_ok-put-3.ensures in
    on_ok_weaker c.tell_data.result
    (λ last. told_some (joined (joined timed made) (rw c.data_bytes.ensures at last))
    (record { time = _; is_time = rw stamp at c.in_ok-time_text.ensures; are = refl }))
    c.tell_data.ensures
