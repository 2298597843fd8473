use Rattle.std.proofs.Common.{◌≡◌, ◌++◌, length, map}
use Rattle.ipmi_image.specs.Prelude.{part_fields, parts_of, lines_text}
use Rattle.ipmi_image.proofs.rewrite.Text.push_inventory.Given as goal

-- The text so far, followed by the lines of the remaining bytes, is the whole text.
abbrev pub invariant-parts : goal.invariant-parts
invariant-parts l = l.self.bytes.items ++ lines_text (map (part_fields l.id) (parts_of l.rest)) ≡ l.fn.self.bytes.items ++ lines_text (map (part_fields l.id) (parts_of l.bytes))

abbrev pub decreases-parts : goal.decreases-parts
decreases-parts l = length l.rest
