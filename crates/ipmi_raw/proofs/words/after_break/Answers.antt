use Rattle.std.proofs.Common.{rules}
use Rattle.ipmi_raw.proofs.words.after_break.Goals as goal

pub returns-in-Ipmitool : goal.returns-in-Ipmitool
returns-in-Ipmitool c = search rules
