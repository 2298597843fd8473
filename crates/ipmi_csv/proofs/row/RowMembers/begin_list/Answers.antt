use Rattle.std.proofs.lemmas.Result.{on_ok_weaker}
use Rattle.ipmi_csv.proofs.RowLemmas.{list_begun}
use Rattle.ipmi_csv.proofs.row.RowMembers.begin_list.Goals as goal

pub returns : goal.returns
returns c = on_ok_weaker c.pass.result (list_begun c.args.key.now) c.pass.ensures
