use Rattle.std.proofs.Common.{rules}
use Rattle.ipmi_records.proofs.sdr.SdrView.read.Goals as goal

pub returns-then-bytes-least_len : goal.returns-then-bytes-least_len
returns-then-bytes-least_len c = search rules

pub returns : goal.returns
returns c = search rules
