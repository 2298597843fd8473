use Rattle.std.proofs.Common.{string_bytes}
use Rattle.ipmi_text.proofs.DivisionLemmas.{HasWritten}
use Rattle.ipmi_text.proofs.decimal.push_fraction.Given as goal

abbrev pub invariant-digits : goal.invariant-digits
invariant-digits l = HasWritten l.fraction (string_bytes l.fn.text) (string_bytes l.text) l.place l.rest

abbrev pub decreases-digits : goal.decreases-digits
decreases-digits l = l.place
