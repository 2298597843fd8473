use Rattle.std.proofs.Common.{rules}
use Rattle.ipmi_records.proofs.sdr.SdrView.name.Goals as goal

pub returns-in_ok-sdr_text-in-Some : goal.returns-in_ok-sdr_text-in-Some
returns-in_ok-sdr_text-in-Some c = search rules
