use Rattle.std.proofs.Common.{rules}
use Rattle.ipmi_raw.proofs.request.Request.data.Goals as goal

pub returns-in-ReadInventory : goal.returns-in-ReadInventory
returns-in-ReadInventory c = search rules
