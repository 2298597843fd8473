use Rattle.ipmi_bus.proofs.IdTableLemmas.{ids_in_zeros}
use Rattle.ipmi_bus.proofs.id_table.IdTable.new.Goals as goal

pub returns : goal.returns
returns c = ids_in_zeros c.in_ok-vec.field-0.items 8192 (c.in_ok-vec.ensures.items_if_clones_equal (λ y same. same))
