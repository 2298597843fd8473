use Rattle.std.proofs.Common.{rules}
use Rattle.ipmi_commands.proofs.piece.listed_text.Goals as goal

pub returns-in-Err-clause-honest : goal.returns-in-Err-clause-honest
returns-in-Err-clause-honest g c = search rules

pub returns-in_err-reading-clause-honest : goal.returns-in_err-reading-clause-honest
returns-in_err-reading-clause-honest g c = search rules

pub returns-clause-honest : goal.returns-clause-honest
returns-clause-honest g c = search rules
