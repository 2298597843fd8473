use Rattle.ipmi_csv.proofs.RowLemmas.{object_ended}
use Rattle.ipmi_csv.proofs.row.RowMembers.end.Goals as goal

pub returns : goal.returns
returns c = object_ended c.leave.ensures
