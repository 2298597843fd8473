use Rattle.std.proofs.Common.{rules}
use Rattle.ipmi_records.proofs.sdr_lines.push_name.Goals as goal

pub returns-in-Some : goal.returns-in-Some
returns-in-Some c = search rules
