use Rattle.std.proofs.Common.{rules}
use Rattle.ipmi_image.proofs.responder.Responder.fail.Goals as goal

pub returns-clause-counted : goal.returns-clause-counted
returns-clause-counted c = search rules

pub returns-clause-failure : goal.returns-clause-failure
returns-clause-failure c = search rules

pub returns-clause-counts : goal.returns-clause-counts
returns-clause-counts c = search rules
