use Rattle.std.proofs.Common.{rules}
use Rattle.serdimko.proofs.EndingLemmas.{part_or_ok}
use Rattle.serdimko.proofs.images.print_header.Goals as goal

pub returns-clause-err : goal.returns-clause-err
returns-clause-err g c = part_or_ok c.flush.result _ _ _ _ (search rules) c.flush.ensures.taken
