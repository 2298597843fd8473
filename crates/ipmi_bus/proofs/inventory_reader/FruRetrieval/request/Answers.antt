use Rattle.std.proofs.Common.{arith}
use Rattle.std.proofs.lemmas.Grind.{common_steps}
use Rattle.ipmi_bus.proofs.inventory_reader.FruRetrieval.request.Goals as goal

pub returns-clause-honest : goal.returns-clause-honest
returns-clause-honest g c = grind (arith, common_steps)
