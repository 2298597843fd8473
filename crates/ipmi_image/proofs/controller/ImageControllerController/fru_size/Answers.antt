use Rattle.std.proofs.Common.{rules}
use Rattle.ipmi_image.proofs.controller.ImageControllerController.fru_size.Goals as goal

pub returns-clause-honest : goal.returns-clause-honest
returns-clause-honest c = search rules

pub returns-clause-exact : goal.returns-clause-exact
returns-clause-exact c = search rules
