use Rattle.std.proofs.Common.{rules}
use Rattle.ipmi_records.proofs.sdr.SdrView.version.Goals as goal

pub returns : goal.returns
returns c = search rules
