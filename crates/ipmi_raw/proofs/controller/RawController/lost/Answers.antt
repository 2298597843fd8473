use Rattle.std.proofs.Common.{rules}
use Rattle.ipmi_raw.proofs.controller.RawController.lost.Goals as goal

pub returns-then-self : goal.returns-then-self
returns-then-self g c = search rules
