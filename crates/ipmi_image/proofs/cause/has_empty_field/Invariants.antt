-- No field before these bytes is empty.
use Rattle.std.proofs.Common.{◌≡◌, length}
use Rattle.std.specs.List.{list_any}
use Rattle.ipmi_image.specs.Prelude.{is_empty, pieces}
use Rattle.ipmi_image.proofs.cause.has_empty_field.Given as goal

abbrev pub invariant-loop-field : goal.invariant-loop-field
invariant-loop-field l = list_any is_empty (pieces 32 l.rest) ≡ list_any is_empty (pieces 32 l.line)

abbrev pub decreases-loop-field : goal.decreases-loop-field
decreases-loop-field l = length l.rest
