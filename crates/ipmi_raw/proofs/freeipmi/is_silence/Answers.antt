use Rattle.std.proofs.Common.{rules}
use Rattle.ipmi_raw.proofs.freeipmi.is_silence.Goals as goal

-- Without these answers a wrong body is searched to the limits.
pub returns-then-eq-3 : goal.returns-then-eq-3
returns-then-eq-3 c = search rules

pub returns-else-eq-3 : goal.returns-else-eq-3
returns-else-eq-3 c = search rules
