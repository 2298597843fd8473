use Rattle.std.proofs.Common.{arith, rules}
use Rattle.std.proofs.lemmas.Grind.{elements}
use Rattle.ipmi_fru.proofs.area.AreaView.minutes.Goals as goal

pub returns-clause-number : goal.returns-clause-number
returns-clause-number c = search rules

pub returns-clause-below : goal.returns-clause-below
returns-clause-below c = grind (arith, elements)
