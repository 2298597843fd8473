use Rattle.std.proofs.Common.{ap, is_some, sym, ◌∙◌}
use Rattle.ipmi_image.specs.Prelude.{pieces}
use Rattle.ipmi_image.proofs.LineLemmas.{pieces-shelf}
use Rattle.ipmi_image.proofs.image_line.first_word.Goals as goal

pub returns-then-is_some : goal.returns-then-is_some
returns-then-is_some c =
    ap (pieces 32) c.in-Some.ensures ∙ pieces-shelf c.in-Some.word.now c.in-Some.fields.now (ap is_some (sym c.parse_shelf.ensures) ∙ sym c.is_some.ensures ∙ c.if-is_some.true)
