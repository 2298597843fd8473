use Rattle.ipmi_json.proofs.DigitLemmas.{low_ok, second_looked_up}
use Rattle.ipmi_json.proofs.digits.second_digits.Goals as goal

pub swizzle : goal.swizzle
swizzle c = low_ok c.args.bytes c.fits-bytes

pub returns : goal.returns
returns c = second_looked_up c.args.bytes c.fits-bytes
