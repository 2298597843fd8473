use Rattle.std.proofs.Common.{◌≡◌, ◌++◌, drop, map}
use Rattle.ipmi_image.specs.Prelude.{lack_fields, lines_text}
use Rattle.ipmi_image.proofs.rewrite.Text.push_lacks.Given as goal

-- The text so far, followed by the lines of the remaining items, is the whole text.
abbrev pub invariant-lacks : goal.invariant-lacks
invariant-lacks l =
    l.self.bytes.items ++ lines_text (map lack_fields (drop l.lack-index l.lacks)) ≡ l.fn.self.bytes.items ++ lines_text (map lack_fields l.lacks)
