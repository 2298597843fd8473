use Rattle.std.proofs.lemmas.Result.{on_ok_weaker}
use Rattle.json.specs.Token.{begin_object}
use Rattle.std.proofs.Common.{refl}
use Rattle.ipmi_json.specs.Members.{Under}
use Rattle.ipmi_json.proofs.ObjectLemmas.{begun_open}
use Rattle.ipmi_json.proofs.members.WriterMembers.begin.Goals as goal

pub returns : goal.returns
returns c = on_ok_weaker c.begin_object.result (λ h. record {
  object = λ around before o. begun_open around (Under around before c.args.key.now) before c.args.key.now begin_object _ c.key.new.self _ refl (λ s within. (s, within)) o (c.in_ok-key.ensures.ok, c.in_ok-key.ensures.room.0) (h, c.begin_object.ensures.room.0);
}) c.begin_object.ensures.ok
