use Rattle.std.proofs.lemmas.Result.{on_ok_weaker}
use Rattle.ipmi_json.proofs.ObjectLemmas.{item_open}
use Rattle.ipmi_json.proofs.members.WriterMembers.begin_item.Goals as goal

pub returns : goal.returns
returns c = on_ok_weaker c.begin_object.result
    (λ h. record { item = λ around before key items o. item_open around before key items _ _ o (h, c.begin_object.ensures.room.0) })
    c.begin_object.ensures.ok
