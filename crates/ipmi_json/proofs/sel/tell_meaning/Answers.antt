use Rattle.std.proofs.lemmas.Result.{on_ok_weaker}
use Rattle.ipmi_json.proofs.MemberLemmas.{joined}
use Rattle.ipmi_json.proofs.sel.tell_meaning.Goals as goal

pub returns : goal.returns
returns g c =
    let type = rw (c.from-event_type.ensures, c.event_type.ensures) at c.in_ok-put.ensures in
    let words = rw (c.text_or_null.ensures, c.words_of.ensures) at c.in_ok-put-2.ensures in
    let direction = rw c.direction_word.ensures at c.in_ok-put-3.ensures in
    let severity = rw (c.event_severity.ensures, c.event_reason.ensures) at c.in_ok-tell_severity.ensures in
    let said = joined (joined (joined (joined type c.in_ok-tell_specified.ensures) words) direction) severity in
    on_ok_weaker c.put-4.result
    (λ last. joined said (rw c.data_of.ensures at last))
    c.put-4.ensures
