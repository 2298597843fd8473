use Rattle.std.proofs.lemmas.Result.{on_ok_weaker}
use Rattle.ipmi_json.specs.Object.{json_of}
use Rattle.ipmi_csv.proofs.RowLemmas.{member_told}
use Rattle.ipmi_csv.proofs.row.RowMembers.put.Goals as goal

pub returns : goal.returns
returns c = on_ok_weaker c.tell.result (member_told (c.args.key.now, json_of c.args.value)) c.tell.ensures
