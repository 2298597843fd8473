use Rattle.ipmi_commands.proofs.CountLemmas.{ends_since}
use Rattle.ipmi_commands.proofs.since.new_entries.Goals as goal

pub returns-clause-honest : goal.returns-clause-honest
returns-clause-honest g c = λ h.
    let read = (rw c.tries.ensures at c.in_ok-info.ensures.honest) h in
    let first = read.asks.ends in
    let since = c.in_ok-found.ensures.honest first.stays.honest in record {
      ends = ends_since first first.stays.plain since.ends;
      finds = record {
        asked = g.C.Controller.seen c.log_info.new.ctl;
        stays = first.stays;
        later = since.ends.stays;
        info = read.is tt;
        follow = since.follow (read.is tt);
        at_once = c.in_ok-found.ensures.at_once;
      };
    }
