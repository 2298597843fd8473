use Rattle.std.proofs.Common.{◌≡◌, length}
use Rattle.ipmi_text.specs.Bytes.{AreBytes}
use Rattle.ipmi_raw.proofs.WordLemmas.{IsReadTo}
use Rattle.ipmi_raw.proofs.reply.read_words.Given as goal

abbrev pub invariant-loop-i : goal.invariant-loop-i
invariant-loop-i l = (length l.bytes.items ≡ l.i) × AreBytes l.bytes.items × IsReadTo l.tool l.text l.bytes.items l.rest
