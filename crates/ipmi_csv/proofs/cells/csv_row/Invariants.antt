use Rattle.std.proofs.Common.{◌≡◌, ◌++◌, flat_map, map, take}
use Rattle.ipmi_csv.specs.Cells.{next_cell}
use Rattle.ipmi_csv.proofs.cells.csv_row.Given as goal

abbrev pub invariant-texts : goal.invariant-texts
invariant-texts l = l.line.items ≡ l.initial.line.items ++ flat_map (next_cell l.separator) (map (λ text. text.now) (take l.text-index l.rest))
