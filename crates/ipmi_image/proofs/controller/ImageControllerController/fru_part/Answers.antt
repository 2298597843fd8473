use Rattle.std.proofs.Common.{rules}
use Rattle.ipmi_image.proofs.controller.ImageControllerController.fru_part.Goals as goal

pub returns-clause-exact : goal.returns-clause-exact
returns-clause-exact c = search rules
