use Rattle.std.proofs.Common.{◌≡◌, ◌+◌, ◌≤◌, [], List, length}
use Rattle.ipmi_image.specs.Below.{IsStore}
use Rattle.ipmi_image.specs.Prelude.{pieces, Line, store_after, store_of, HoldsLines}
use Rattle.ipmi_image.proofs.image.put_lines.Given as goal

-- The contents are those of the lines so far, and the remaining lines after them have the same result as all lines.
abbrev pub invariant-lines : goal.invariant-lines
invariant-lines l =
    IsStore (store_of l.contents)
    × ((before : List Line) × HoldsLines l.contents before × (length before + 2 ≡ l.number)
    × (store_after l.version before (pieces 10 l.rest) ≡ store_after l.version [] (pieces 10 l.text)))
    × (l.number + length l.rest ≤ length l.text + 2)

abbrev pub decreases-lines : goal.decreases-lines
decreases-lines l = length l.rest
