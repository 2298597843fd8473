use Rattle.std.proofs.Common.{rules}
use Rattle.ipmi_json.proofs.areas.field_keys.Goals as goal

pub returns-in-Chassis : goal.returns-in-Chassis
returns-in-Chassis c = search rules
