use Rattle.std.proofs.Common.{◌≡◌, map, string_bytes}
use Rattle.std.specs.List.{range_with_len}
use Rattle.ipmi_text.specs.FieldText.{six_bit_character}
use Rattle.ipmi_text.proofs.field_text.six_bit_text.Given as goal

abbrev pub invariant-loop-i : goal.invariant-loop-i
invariant-loop-i l = string_bytes l.text ≡ map (six_bit_character l.bytes) (range_with_len 0 l.i)
