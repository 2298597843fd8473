use Rattle.std.proofs.Common.{rules}
use Rattle.ipmi_fru.proofs.HexLemmas.{binary_text-one}
use Rattle.ipmi_fru.proofs.record_text.push_other.Goals as goal

pub returns : goal.returns
returns c = rw (binary_text-one c.args.view.now.kind (search rules), ← c.in_ok-data.ensures) c.write.ensures.bytes
