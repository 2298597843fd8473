use Rattle.std.proofs.Common.{◌≡◌, ◌++◌, ◌-◌, ◌≤◌, length, drop}
use Rattle.ipmi_image.specs.Prelude.{chained, rows_lines, lines_text}
use Rattle.ipmi_image.proofs.rewrite.Text.push_rows.Given as goal

-- The text so far, followed by the lines of the remaining rows, is the whole text.
abbrev pub invariant-rows : goal.invariant-rows
invariant-rows l =
    (l.place ≤ length l.rows)
    × (l.self.bytes.items ++ lines_text (rows_lines l.word (chained (drop l.place l.rows))) ≡ l.fn.self.bytes.items ++ lines_text (rows_lines l.word (chained l.rows)))

abbrev pub decreases-rows : goal.decreases-rows
decreases-rows l = length l.rows - l.place
