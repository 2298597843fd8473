use Rattle.std.proofs.Common.{◌∙◌, ap, arith}
use Rattle.serdimko.specs.RunError.{lost_error}
use Rattle.serdimko.specs.Out.{out_of}
use Rattle.serdimko.proofs.RunErrorLemmas.{run_faults}
use Rattle.serdimko.proofs.ending.end_run.Goals as goal

pub returns-clause-faults : goal.returns-clause-faults
returns-clause-faults g c =
    let is = c.of_connection-error.ensures ∙ ap (lost_error c.args.said) c.of-failed.ensures in
    omega (arith, c.flush-ending.ensures.faults, rw is at c.end_with.ensures.faults, run_faults c.args.said c.flush-ending.result c.is_faulty.result c.is_closed.result)

pub returns-clause-ends : goal.returns-clause-ends
returns-clause-ends g c = record {
  flushed = out_of c.flush-ending.new.out;
  ending = c.flush-ending.result;
  taken = c.flush-ending.ensures.taken;
  same_end = c.flush-ending.ensures.ends;
  empty = c.flush-ending.ensures.flushed;
  ends = rw (c.of_connection-error.ensures, c.of-failed.ensures, c.is_faulty.ensures, c.is_closed.ensures, c.pieces.ensures) at c.end_with.ensures.ends;
}
