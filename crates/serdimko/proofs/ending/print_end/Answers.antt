use Rattle.std.proofs.Common.{rules}
use Rattle.serdimko.proofs.ending.print_end.Goals as goal

pub returns-clause-ends : goal.returns-clause-ends
returns-clause-ends g c = search rules
