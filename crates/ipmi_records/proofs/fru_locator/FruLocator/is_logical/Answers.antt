use Rattle.std.proofs.Common.{rules}
use Rattle.ipmi_records.proofs.fru_locator.FruLocator.is_logical.Goals as goal

pub returns : goal.returns
returns c = search rules
