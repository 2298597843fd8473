use Rattle.std.proofs.Common.{rules}
use Rattle.ipmi_image.proofs.controller.ImageControllerController.reserve.Goals as goal

pub returns-clause-honest : goal.returns-clause-honest
returns-clause-honest c = search rules
