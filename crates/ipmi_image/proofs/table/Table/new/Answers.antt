use Rattle.ipmi_image.proofs.TableLemmas.{index_new}
use Rattle.ipmi_image.proofs.table.Table.new.Goals as goal

pub invariant_of-result : goal.invariant_of-result
invariant_of-result g c = rw c.new.ensures.items (index_new _ _ c.new-2.ensures)
