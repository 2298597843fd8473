use Rattle.std.proofs.lemmas.Result.{on_ok_weaker}
use Rattle.ipmi_json.proofs.ObjectLemmas.{item_ended, object_ended}
use Rattle.ipmi_json.proofs.members.WriterMembers.end.Goals as goal

pub returns : goal.returns
returns c = on_ok_weaker c.end_object.result (λ h. record {
  object = λ around before key ms within o. object_ended around before key ms _ _ within o (h, c.end_object.ensures.room.0);
  item = λ around before key items ms within o. item_ended around before key items ms _ _ within o (h, c.end_object.ensures.room.0);
}) c.end_object.ensures.ok
