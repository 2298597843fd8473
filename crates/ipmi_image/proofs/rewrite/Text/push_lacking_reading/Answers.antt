use Rattle.std.proofs.Common.{◌∷◌, ◌++◌, [], refl, append_assoc, ◌∙◌}
use Rattle.ipmi_image.proofs.rewrite.Text.push_lacking_reading.Goals as goal

pub returns : goal.returns
returns c = rw (c.in_ok-push_code.ensures, c.in_ok-push_sensor_key.ensures, c.in_ok-push.ensures) (simp append_assoc refl)
