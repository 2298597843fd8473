use Rattle.std.proofs.Common.{arith}
use Rattle.std.proofs.lemmas.Grind.{common_steps}
use Rattle.ipmi_json.proofs.sel.tell_by_kind.Goals as goal

pub returns-in-Event : goal.returns-in-Event
returns-in-Event g c = grind (arith, common_steps)

pub returns-in-OemTimed : goal.returns-in-OemTimed
returns-in-OemTimed g c = grind (arith, common_steps)

pub returns-in-OemPlain : goal.returns-in-OemPlain
returns-in-OemPlain g c = grind (arith, common_steps)

pub returns-in-Other : goal.returns-in-Other
returns-in-Other g c = grind (arith, common_steps)
