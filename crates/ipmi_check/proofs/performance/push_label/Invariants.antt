use Rattle.std.proofs.Common.{◌≡◌, ◌++◌, flat_map, take}
use Rattle.ipmi_check.specs.Performance.{label_byte}
use Rattle.ipmi_check.proofs.performance.push_label.Given as goal

-- The bytes so far.
abbrev pub invariant-loop-byte : goal.invariant-loop-byte
invariant-loop-byte l = l.text.items ≡ l.initial.text.items ++ flat_map label_byte (take l.byte-index l.label)
