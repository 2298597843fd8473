use Rattle.std.proofs.Common.{rules}
use Rattle.ipmi_image.proofs.builder.ImageBuilder.put_info.Goals as goal

pub returns-in-Sel : goal.returns-in-Sel
returns-in-Sel c = search rules
