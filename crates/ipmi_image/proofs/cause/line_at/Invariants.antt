-- The line is one of those that are left.
use Rattle.std.proofs.Common.{◌≡◌, ◌+◌}
use Rattle.ipmi_image.specs.Prelude.{line_at}
use Rattle.ipmi_image.proofs.cause.line_at.Given as goal

abbrev pub invariant-loop-left : goal.invariant-loop-left
invariant-loop-left l = line_at l.rest (l.left + 1) ≡ line_at l.bytes l.number

abbrev pub decreases-loop-left : goal.decreases-loop-left
decreases-loop-left l = l.left
