use Rattle.std.proofs.Common.{rules}
use Rattle.ipmi_fru.proofs.HexLemmas.{binary_text-first}
use Rattle.ipmi_fru.proofs.record_text.push_access.Goals as goal

pub returns : goal.returns
returns c = rw (binary_text-first c.args.bytes.now (search rules) (search rules), ← c.in_ok-value.ensures) c.write.ensures.bytes
