use Rattle.std.proofs.Common.{Ok, refl}
use Rattle.serdimko.proofs.since.print_since.Goals as goal

pub returns-in-Ok : goal.returns-in-Ok
returns-in-Ok g c = record {
  found = Ok c.in-Ok.new;
  middle = _;
  asked = c.in-Ok.ensures.asked;
  finds = c.in-Ok.ensures.honest;
  leaves = c.in-Ok.ensures.mark;
  out_is = refl;
  prints = (
    c.run_entries-last.result,
    g.E.MessageSink.received c.say_restarted.new.err,
    c.run_entries-last.ensures,
    rw c.continuity.ensures at c.say_restarted.ensures,
    c.tell.ensures.1,
    rw (c.mark_left-left.ensures, c.mark-next.ensures, c.tell.ensures.0) at c.marked.ensures,
  );
}
