use Rattle.ipmi_bus.specs.Prelude.{IsStateOf}
use Rattle.ipmi_bus.proofs.InventoryLemmas.{reads_inventory}
use Rattle.ipmi_bus.proofs.inventory_reader.read_fru.Goals as goal

pub returns-clause-honest : goal.returns-clause-honest
returns-clause-honest g c = λ h. reads_inventory (IsStateOf g.C.Controller.seen) c.args.id c.args.tries _ _ _ (c.read_with_tries.ensures.honest h)
