use Rattle.std.proofs.lemmas.Result.{on_ok_weaker}
use Rattle.ipmi_json.proofs.MemberLemmas.{joined}
use Rattle.ipmi_json.proofs.sdr.tell_shown.Goals as goal

pub returns : goal.returns
returns g c =
    let shown = c.shown_of-shown.ensures in
    let raw = rw (c.integer_or_null.ensures, c.raw_shown.ensures, shown) at c.in_ok-put.ensures in
    let states = rw (c.integer_or_null-2.ensures, c.states_shown.ensures, shown) at c.in_ok-put-2.ensures in
    let words = rw shown at c.in_ok-tell_state_words.ensures in
    let status = rw c.status_words-words.ensures at c.in_ok-put-4.ensures in
    on_ok_weaker c.tell_severity.result
    (λ last. joined (joined (joined (joined (joined raw states) words) c.in_ok-put-3.ensures) status) (rw (c.sensor_severity.ensures, c.sensor_reason-reason.ensures) at last))
    c.tell_severity.ensures
