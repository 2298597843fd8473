use Rattle.std.proofs.Common.{rules}
use Rattle.ipmi_events.proofs.discrete.data_label.Goals as goal

pub returns-in-Three : goal.returns-in-Three
returns-in-Three c = search rules
