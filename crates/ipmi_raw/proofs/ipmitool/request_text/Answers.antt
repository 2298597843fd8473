use Rattle.std.proofs.Common.{rules}
use Rattle.ipmi_raw.proofs.ipmitool.request_text.Goals as goal

pub returns : goal.returns
returns c = search rules
