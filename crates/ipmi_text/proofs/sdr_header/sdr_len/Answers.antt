use Rattle.std.proofs.Common.{rules}
use Rattle.ipmi_text.proofs.sdr_header.sdr_len.Goals as goal

pub returns : goal.returns
returns c = search rules
