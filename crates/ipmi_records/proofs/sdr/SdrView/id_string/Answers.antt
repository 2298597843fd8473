use Rattle.std.proofs.Common.{rules}
use Rattle.ipmi_records.proofs.sdr.SdrView.id_string.Goals as goal

pub returns-in-Fru : goal.returns-in-Fru
returns-in-Fru c = search rules
