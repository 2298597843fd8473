use Rattle.std.proofs.Common.{◌≡◌, ◌++◌, flat_map, take}
use Rattle.ipmi_csv.specs.Cells.{doubled}
use Rattle.ipmi_csv.proofs.cells.push_quoted.Given as goal

abbrev pub invariant-bytes : goal.invariant-bytes
invariant-bytes l = l.line.items ≡ l.initial.line.items ++ flat_map doubled (take l.byte-index l.text)
