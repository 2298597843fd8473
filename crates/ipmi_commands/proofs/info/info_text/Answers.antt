use Rattle.std.proofs.Common.{rules}
use Rattle.ipmi_commands.proofs.info.info_text.Goals as goal

pub returns-in-None-clause-honest : goal.returns-in-None-clause-honest
returns-in-None-clause-honest g c = search rules
