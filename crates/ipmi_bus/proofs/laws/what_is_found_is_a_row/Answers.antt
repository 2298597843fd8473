use Rattle.ipmi_bus.proofs.ShelfLemmas.{look_row}
use Rattle.ipmi_bus.proofs.laws.what_is_found_is_a_row.Goals as goal

pub returns : goal.returns
returns c = look_row
