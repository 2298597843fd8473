use Rattle.std.proofs.Common.{◌≡◌, [], drop, map}
use denote.Text.{Utf8}
use denote.Shadow.{shadow}
use Rattle.ipmi_csv.specs.Row.{text_or, told_cell}
use Rattle.ipmi_csv.proofs.row.text_at.Given as goal

abbrev pub invariant-loop-cell : goal.invariant-loop-cell
invariant-loop-cell l =
    shadow (Utf8 l.text)
    × (text_or l.text l.key (map told_cell (drop l.cell-index l.cells)) ≡ text_or [] l.key (map told_cell l.cells))
