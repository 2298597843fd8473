use Rattle.std.proofs.Common.{rules}
use Rattle.ipmi_bus.proofs.retrieval.Retrieval.take_part.Goals as goal

pub returns-then-self-wanted : goal.returns-then-self-wanted
returns-then-self-wanted c = search rules
