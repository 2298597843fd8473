use Rattle.std.proofs.Common.{rules}
use Rattle.ipmi_records.proofs.sdr_lines.sdr_fault_line.Goals as goal

pub returns : goal.returns
returns c = search rules
