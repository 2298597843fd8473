use Rattle.std.proofs.Common.{rules}
use Rattle.ipmi_records.proofs.sdr.SdrView.locator.Goals as goal

pub returns-in-Controller : goal.returns-in-Controller
returns-in-Controller c = search rules
