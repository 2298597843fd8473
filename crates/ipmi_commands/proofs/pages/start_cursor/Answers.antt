use Rattle.std.proofs.Common.{rules}
use Rattle.ipmi_commands.proofs.pages.start_cursor.Goals as goal

pub returns : goal.returns
returns c = record {
  is = search rules;
  some = search rules;
  falls = search rules;
  stands = λ rows walk.
      let there = c.in_ok-cursor.ensures.stands rows walk in
      rw c.read_ahead.ensures (record { within = there.within; place = there.place; ids = there.ids });
}
