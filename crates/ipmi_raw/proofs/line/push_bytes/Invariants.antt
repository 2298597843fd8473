use Rattle.std.proofs.Common.{◌≡◌, ◌+◌, ◌*◌, ◌++◌, drop, length}
use Rattle.ipmi_raw.specs.Words.{bytes_after}
use Rattle.ipmi_raw.proofs.line.push_bytes.Given as goal

abbrev pub invariant-loop-byte : goal.invariant-loop-byte
invariant-loop-byte l =
    (l.line.items ++ bytes_after l.tool l.before (drop l.byte-index l.bytes) ≡ l.fn.line.items ++ bytes_after l.tool l.before l.bytes)
    × (length l.line.items ≡ length l.fn.line.items + (length l.before + 2) * l.byte-index)
