use Rattle.std.proofs.Common.{rules}
use Rattle.ipmi_image.proofs.builder.ImageBuilder.new.Goals as goal

pub returns : goal.returns
returns c = search rules
