use Rattle.std.proofs.Common.{refl}
use Rattle.serdimko.specs.Out.{out_of}
use Rattle.serdimko.proofs.CheckLemmas.{zero_is_fine}
use Rattle.serdimko.proofs.check.check.Goals as goal

pub returns : goal.returns
returns g c = record {
  found = c.find_sensors-ending.new.found;
  searched = c.find_sensors-ending.result;
  line = c.last_line-said.result;
  asked = c.find_sensors-ending.ensures.asked;
  calls = c.find_sensors-ending.ensures.calls;
  may_end = c.find_sensors-ending.ensures.ends;
  sought = c.args.filters;
  filters_are = refl;
  are_sought = rw c.new-found.ensures at c.find_sensors-ending.ensures.adds;
  searches = λ h. rw c.new-found.ensures at (c.find_sensors-ending.ensures.searches h);
  last_line = c.last_line-said.ensures;
  status = c.print_verdict.result;
  prints = rw (c.of_connection-error.ensures, c.of.ensures) at c.print_verdict.ensures;
  result_is = c.of_verdict.ensures;
  fine = λ honest zero. zero_is_fine c.args.report.now c.args.detail _ _ c.args.limits.tries _ _ c.find_sensors-ending.new.found c.find_sensors-ending.result c.last_line-said.result (out_of c.args.out.now) (out_of c.print_verdict.new.out) c.print_verdict.result
      (rw c.new-found.ensures at (c.find_sensors-ending.ensures.searches honest)) (rw (c.of_connection-error.ensures, c.of.ensures) at c.print_verdict.ensures) zero;
}
