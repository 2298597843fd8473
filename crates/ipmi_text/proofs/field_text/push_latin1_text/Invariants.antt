use Rattle.std.proofs.Common.{◌≡◌, ◌++◌, drop, string_bytes}
use Rattle.ipmi_text.specs.FieldText.{latin1_text}
use Rattle.ipmi_text.proofs.field_text.push_latin1_text.Given as goal

abbrev pub invariant-loop-byte : goal.invariant-loop-byte
invariant-loop-byte l = string_bytes l.text ++ latin1_text (drop l.byte-index l.bytes) ≡ string_bytes l.fn.text ++ latin1_text l.bytes
