use Rattle.std.proofs.Common.{rules}
use Rattle.ipmi_text.proofs.field_text.is_plain.Goals as goal

pub returns-then-byte-ge32 : goal.returns-then-byte-ge32
returns-then-byte-ge32 c = search rules
