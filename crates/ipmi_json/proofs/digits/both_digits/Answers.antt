use Rattle.ipmi_json.proofs.DigitLemmas.{takes_turns}
use Rattle.ipmi_json.proofs.digits.both_digits.Goals as goal

pub returns : goal.returns
returns c = rw (c.first_digits.ensures, c.second_digits.ensures) (takes_turns c.args.bytes c.requires)
