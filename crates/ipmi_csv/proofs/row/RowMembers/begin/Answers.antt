use Rattle.std.proofs.lemmas.Result.{on_ok_weaker}
use Rattle.ipmi_csv.proofs.RowLemmas.{object_begun}
use Rattle.ipmi_csv.proofs.row.RowMembers.begin.Goals as goal

pub returns : goal.returns
returns c = on_ok_weaker c.enter.result (object_begun c.args.key.now) c.enter.ensures
