use Rattle.std.proofs.Common.{rules}
use Rattle.ipmi_raw.proofs.piped.begin.Goals as goal

pub returns-in-Ipmitool-clause-over : goal.returns-in-Ipmitool-clause-over
returns-in-Ipmitool-clause-over g c = search rules
