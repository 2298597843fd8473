use Rattle.std.proofs.Common.{rules}
use Rattle.ipmi_image.proofs.controller.ImageController.new.Goals as goal

pub returns-clause-none_current : goal.returns-clause-none_current
returns-clause-none_current c = search rules

pub returns-clause-none_given : goal.returns-clause-none_given
returns-clause-none_given c = search rules
