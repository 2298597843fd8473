use Rattle.std.proofs.Common.{rules}
use Rattle.ipmi_bus.proofs.inventory_reader.FruRetrieval.fail_part.Goals as goal

pub returns-in-Absent-clause-fails : goal.returns-in-Absent-clause-fails
returns-in-Absent-clause-fails c = search rules
