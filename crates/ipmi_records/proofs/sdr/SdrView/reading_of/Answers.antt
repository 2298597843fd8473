use Rattle.std.proofs.Common.{rules}
use Rattle.ipmi_records.proofs.sdr.SdrView.reading_of.Goals as goal

pub returns-in-Compact : goal.returns-in-Compact
returns-in-Compact c = search rules
