use Rattle.std.proofs.Common.{rules}
use Rattle.ipmi_fru.proofs.record_text.DcFields.of.Goals as goal

pub returns : goal.returns
returns c = search rules
