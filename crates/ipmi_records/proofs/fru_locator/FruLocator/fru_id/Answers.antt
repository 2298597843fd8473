use Rattle.std.proofs.Common.{rules}
use Rattle.ipmi_records.proofs.fru_locator.FruLocator.fru_id.Goals as goal

pub returns : goal.returns
returns c = search rules
