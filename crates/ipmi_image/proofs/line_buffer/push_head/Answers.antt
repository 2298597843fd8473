use Rattle.std.proofs.Common.{◌∙◌, refl}
use Rattle.hex.specs.Hex.{encode_with}
use Rattle.ipmi_image.proofs.line_buffer.push_head.Goals as goal

pub returns-clause-items : goal.returns-clause-items
unfolding encode_with
returns-clause-items c = c.push.ensures.items ∙ rw (c.id_digits.ensures, c.id_digits-2.ensures) refl
