use Rattle.std.proofs.Common.{rules}
use Rattle.ipmi_fru.specs.Prelude.{items_left}
use Rattle.ipmi_fru.proofs.FaultLemmas.{fault_listed}
use Rattle.ipmi_fru.proofs.fault.has_record_fault.Goals as goal

pub records-init : goal.records-init
records-init c = fault_listed c.args.inventory.now (items_left c.into_iter-item-iterator.result) (search rules)
