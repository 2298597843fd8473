use Rattle.std.proofs.Common.{rules}
use Rattle.ipmi_image.proofs.builder.ImageBuilder.finish.Goals as goal

pub returns-clause-is : goal.returns-clause-is
returns-clause-is c = search rules
