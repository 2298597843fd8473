use Rattle.std.proofs.Common.{rules}
use Rattle.ipmi_raw.proofs.controller.RawController.new.Goals as goal

pub returns-clause-seen : goal.returns-clause-seen
returns-clause-seen g c = search rules

pub returns-clause-lost : goal.returns-clause-lost
returns-clause-lost g c = search rules

pub returns-clause-pause : goal.returns-clause-pause
returns-clause-pause g c = search rules
