use Rattle.std.proofs.Common.{rules}
use Rattle.ipmi_raw.proofs.freeipmi.request_text.Goals as goal

pub returns : goal.returns
returns c = search rules
