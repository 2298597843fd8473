use Rattle.std.proofs.Common.{rules}
use Rattle.ipmi_program.proofs.input.read_words.Goals as goal

pub returns-clause-ok : goal.returns-clause-ok
returns-clause-ok g c = search rules
