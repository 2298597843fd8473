-- The first bytes are copied.
use Rattle.std.proofs.Common.{◌≡◌, ◌++◌, drop, length}
use Rattle.ipmi_text.specs.Bytes.{AreBytes}
use Rattle.ipmi_raw.proofs.reply.ReplyBytes.new.Given as goal

abbrev pub invariant-loop-byte : goal.invariant-loop-byte
invariant-loop-byte l =
    (l.copied.items ++ drop l.byte-index l.bytes ≡ l.bytes) × (length l.copied.items ≡ l.byte-index) × AreBytes l.copied.items
