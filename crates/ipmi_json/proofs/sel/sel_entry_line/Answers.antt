use Rattle.ipmi_json.proofs.MemberLemmas.{line_told}
use Rattle.ipmi_json.proofs.sel.sel_entry_line.Goals as goal

pub returns : goal.returns
returns c = line_told _ c.finish.result c.in_ok-out.ensures c.in_ok-tell_entry.ensures c.finish.ensures
