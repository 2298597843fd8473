use Rattle.std.proofs.Common.{refl, arith}
use Rattle.ipmi_image.specs.declared.digits.TheConstants.{VALUES}
use Rattle.ipmi_image.proofs.DigitLemmas.{value_at}
use Rattle.ipmi_image.proofs.digits.value.Goals as goal

pub returns : goal.returns
returns c = rw c.from.ensures (value_at VALUES 256 c.args.digit refl (omega (arith, c.ranges.digit)))
