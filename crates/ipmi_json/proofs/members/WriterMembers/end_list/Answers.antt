use Rattle.std.proofs.lemmas.Result.{on_ok_weaker}
use Rattle.ipmi_json.proofs.ObjectLemmas.{list_ended}
use Rattle.ipmi_json.proofs.members.WriterMembers.end_list.Goals as goal

pub returns : goal.returns
returns c = on_ok_weaker c.end_array.result
    (λ h. record { list = λ around before key items o. list_ended around before key items _ _ o (h, c.end_array.ensures.room.0) })
    c.end_array.ensures.ok
