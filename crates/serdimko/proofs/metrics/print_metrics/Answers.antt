use Rattle.std.proofs.Common.{refl}
use Rattle.serdimko.proofs.metrics.print_metrics.Goals as goal

pub returns : goal.returns
returns g c = record {
  found = c.find_sensors-searched.new.found;
  searched = c.find_sensors-searched.result;
  middle = g.C.Controller.seen c.find_sensors-searched.new.ctl;
  read = c.read_log-info.result;
  line = c.last_line-said.result;
  last = c.print_text-last.result;
  asked = c.find_sensors-searched.ensures.asked;
  calls = c.find_sensors-searched.ensures.calls;
  may_end = c.find_sensors-searched.ensures.ends;
  sought = c.args.filters;
  filters_are = refl;
  are_sought = rw c.new-found.ensures at c.find_sensors-searched.ensures.adds;
  searches = λ h. rw c.new-found.ensures at (c.find_sensors-searched.ensures.searches h);
  log = rw c.tries.ensures at c.read_log-info.ensures;
  last_line = c.last_line-said.ensures;
  prints = rw (c.of_connection-error.ensures, c.of.ensures, c.is_ok-is_up.ensures.value, c.as_ref.ensures.value) at c.print_text-last.ensures;
  reports = c.tell.ensures;
}
