use Rattle.std.proofs.Common.{rules}
use Rattle.ipmi_records.proofs.sdr.SdrView.bytes.Goals as goal

pub returns-in-Compact-clause-value : goal.returns-in-Compact-clause-value
returns-in-Compact-clause-value c = search rules
