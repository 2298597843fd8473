use Rattle.std.proofs.Common.{rules}
use Rattle.ipmi_events.proofs.entities.entity_name.Goals as goal

pub returns : goal.returns
returns c = search rules
