use Rattle.std.proofs.Common.{rules}
use Rattle.ipmi_text.proofs.field_text.push_sdr_text.Goals as goal

pub returns : goal.returns
returns c = search rules
