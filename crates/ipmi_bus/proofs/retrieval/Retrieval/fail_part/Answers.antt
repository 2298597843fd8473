use Rattle.std.proofs.Common.{rules}
use Rattle.ipmi_bus.proofs.retrieval.Retrieval.fail_part.Goals as goal

pub returns-in-Refuse-clause-fails : goal.returns-in-Refuse-clause-fails
returns-in-Refuse-clause-fails c = search rules

pub returns-in-Refuse-clause-leaves : goal.returns-in-Refuse-clause-leaves
returns-in-Refuse-clause-leaves c = search rules

pub returns-in-Anew-clause-fails : goal.returns-in-Anew-clause-fails
returns-in-Anew-clause-fails c = search rules

pub returns-in-Anew-clause-leaves : goal.returns-in-Anew-clause-leaves
returns-in-Anew-clause-leaves c = search rules
