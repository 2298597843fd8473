use Rattle.ipmi_json.proofs.MemberLemmas.{line_told}
use Rattle.ipmi_json.proofs.info.info_line.Goals as goal

pub returns : goal.returns
returns c = line_told _ c.finish.result c.in_ok-out.ensures c.in_ok-tell_info.ensures c.finish.ensures
