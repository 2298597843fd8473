use Rattle.std.proofs.Common.{◌≡◌, ◌+◌, ◌≤◌, [], length}
use Rattle.ipmi_image.specs.Prelude.{lacks_then, pieces}
use Rattle.ipmi_image.proofs.snapshot.read_lacks.Given as goal

-- The items so far are those of the lines so far, and the remaining lines after them say what all lines say.
abbrev pub invariant-lines : goal.invariant-lines
invariant-lines l =
    (lacks_then [] (pieces 10 l.text) ≡ lacks_then l.lacks.items (pieces 10 l.rest))
    × (length l.lacks.items + length l.rest ≤ length l.text)

abbrev pub decreases-lines : goal.decreases-lines
decreases-lines l = length l.rest
