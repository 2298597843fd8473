use Rattle.ipmi_json.proofs.MemberLemmas.{line_told}
use Rattle.ipmi_json.proofs.fru.fru_line.Goals as goal

pub returns : goal.returns
returns c = line_told _ c.finish.result c.in_ok-out.ensures c.in_ok-tell_device.ensures c.finish.ensures
