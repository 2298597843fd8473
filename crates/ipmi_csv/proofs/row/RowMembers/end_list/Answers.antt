use Rattle.ipmi_csv.proofs.RowLemmas.{list_ended}
use Rattle.ipmi_csv.proofs.row.RowMembers.end_list.Goals as goal

pub returns : goal.returns
returns c = list_ended c.leave.ensures
