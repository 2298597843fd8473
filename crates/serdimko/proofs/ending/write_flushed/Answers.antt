use Rattle.serdimko.proofs.EndingLemmas.{part_or_ok}
use Rattle.serdimko.proofs.ending.write_flushed.Goals as goal

pub returns-clause-err : goal.returns-clause-err
returns-clause-err g c = part_or_ok c.flush.result _ _ _ c.args.text.now c.in_ok-write_all.ensures.ok.0 c.flush.ensures.taken
