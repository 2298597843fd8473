use Rattle.std.proofs.Common.{◌≡◌, ◌++◌, drop, string_bytes}
use Rattle.ipmi_text.specs.FieldText.{bcd_plus_text}
use Rattle.ipmi_text.proofs.field_text.bcd_plus_text.Given as goal

abbrev pub invariant-loop-byte : goal.invariant-loop-byte
invariant-loop-byte l = string_bytes l.text ++ bcd_plus_text (drop l.byte-index l.bytes) ≡ bcd_plus_text l.bytes
