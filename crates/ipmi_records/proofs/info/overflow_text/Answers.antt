use Rattle.std.proofs.Common.{rules}
use Rattle.ipmi_records.proofs.info.overflow_text.Goals as goal

pub returns-then-has_bit : goal.returns-then-has_bit
returns-then-has_bit c = search rules

pub returns-else-has_bit : goal.returns-else-has_bit
returns-else-has_bit c = search rules
