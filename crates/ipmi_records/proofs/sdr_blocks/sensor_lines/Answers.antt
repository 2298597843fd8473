use Rattle.std.proofs.Common.{◌∙◌, append_assoc, refl}
use Rattle.ipmi_records.proofs.sdr_blocks.sensor_lines.Goals as goal

pub returns : goal.returns
returns c = rw c.in-Some.is ((rw c.in_ok-text.ensures.bytes at c.in_ok-write.ensures.bytes) ∙ simp append_assoc refl)
