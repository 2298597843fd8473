use Rattle.std.proofs.lemmas.Result.{on_ok_weaker}
use Rattle.ipmi_json.proofs.ObjectLemmas.{member_open}
use Rattle.ipmi_json.proofs.members.WriterMembers.put.Goals as goal

pub returns : goal.returns
returns c = on_ok_weaker c.write_value.result (λ h. record {
  more = λ around before o. member_open around before c.args.key.now c.args.value _ c.key.new.self _ o (c.in_ok-key.ensures.ok, c.in_ok-key.ensures.room.0) (h, c.write_value.ensures.before);
}) c.write_value.ensures.ok
