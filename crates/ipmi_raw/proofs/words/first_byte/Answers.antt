use Rattle.std.proofs.Common.{arith}
use Rattle.std.proofs.lemmas.Grind.{elements}
use Rattle.ipmi_raw.proofs.words.first_byte.Goals as goal

pub returns : goal.returns
returns c = grind (arith, elements)
