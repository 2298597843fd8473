use Rattle.std.proofs.Common.{rules}
use Rattle.ipmi_records.proofs.column.sensor_status.Goals as goal

pub returns-in-OtherOwner : goal.returns-in-OtherOwner
returns-in-OtherOwner c = search rules
