use Rattle.ipmi_json.proofs.DigitLemmas.{first_looked_up, high_ok}
use Rattle.ipmi_json.proofs.digits.first_digits.Goals as goal

pub swizzle : goal.swizzle
swizzle c = high_ok c.args.bytes c.fits-bytes

pub returns : goal.returns
returns c = first_looked_up c.args.bytes c.fits-bytes
