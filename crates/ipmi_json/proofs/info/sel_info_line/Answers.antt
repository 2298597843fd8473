use Rattle.std.proofs.Common.{rules}
use Rattle.ipmi_json.proofs.info.sel_info_line.Goals as goal

pub returns : goal.returns
returns c = search rules
