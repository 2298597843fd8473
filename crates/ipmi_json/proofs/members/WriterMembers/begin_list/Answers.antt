use Rattle.std.proofs.lemmas.Result.{on_ok_weaker}
use Rattle.json.specs.Token.{begin_array}
use Rattle.std.proofs.Common.{[], arith, refl}
use Rattle.ipmi_json.specs.Members.{Listing}
use Rattle.ipmi_json.proofs.ObjectLemmas.{begun_open}
use Rattle.ipmi_json.proofs.members.WriterMembers.begin_list.Goals as goal

pub returns : goal.returns
returns c = on_ok_weaker c.begin_array.result (λ h. record {
  list = λ around before o. begun_open around (Listing around before c.args.key.now []) before c.args.key.now begin_array _ c.key.new.self _ refl (λ s within. (s, (within, omega arith))) o (c.in_ok-key.ensures.ok, c.in_ok-key.ensures.room.0) (h, c.begin_array.ensures.room.0);
}) c.begin_array.ensures.ok
