use Rattle.std.proofs.Common.{rules}
use Rattle.ipmi_records.proofs.sdr.SdrView.sharing.Goals as goal

pub returns-in-EventOnly : goal.returns-in-EventOnly
returns-in-EventOnly c = search rules
