use Rattle.std.proofs.Common.{refl}
use Rattle.std.proofs.lemmas.Result.{on_ok_weaker}
use Rattle.ipmi_json.proofs.MemberLemmas.{joined, told_some}
use Rattle.ipmi_json.proofs.sel.tell_event.Goals as goal

pub returns : goal.returns
returns g c =
    let stamp = c.time_stamp-stamp.ensures in
    let time = rw c.text_or_null-time.ensures at c.in_ok-put.ensures in
    let timed = joined time (rw (c.from.ensures, stamp) at c.in_ok-put-2.ensures) in
    on_ok_weaker c.tell_details.result
    (λ last. told_some (joined (joined (joined timed c.in_ok-tell_source.ensures) c.in_ok-tell_meaning.ensures) last.tells)
    (record { time = _; details = last.ms; is_time = rw stamp at c.in_ok-time_text.ensures; are_details = last.are; are = refl }))
    c.tell_details.ensures
