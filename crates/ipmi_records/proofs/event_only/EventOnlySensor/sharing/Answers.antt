use Rattle.std.proofs.Common.{rules}
use Rattle.ipmi_records.proofs.event_only.EventOnlySensor.sharing.Goals as goal

pub returns : goal.returns
returns c = search rules
