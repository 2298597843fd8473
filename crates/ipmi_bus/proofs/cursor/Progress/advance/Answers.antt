use Rattle.std.proofs.Common.{◌≡◌, rules, inr, refl, sym, ◌∙◌}
use Rattle.ipmi_bus.proofs.CursorLemmas.{first_asks, look-whole_row, handed_row-whole, hands_out, is_cursor-after, place_after-not_first, room_asked}
use Rattle.ipmi_bus.proofs.WalkLemmas.{whole_step}
use Rattle.ipmi_bus.specs.Prelude.{First}
use Rattle.ipmi_bus.proofs.cursor.Progress.advance.Goals as goal

pub returns-in-End-clause-step : goal.returns-in-End-clause-step
returns-in-End-clause-step g c = whole_step _ _ _ _ _ (search rules) (search rules) (search rules) (search rules) (search rules) (search rules) (search rules) (search rules) (search rules)

pub returns-in-Cycle-clause-step : goal.returns-in-Cycle-clause-step
returns-in-Cycle-clause-step g c = rw (c.fail.ensures.answers, c.fail.ensures.leaves) (whole_step _ _ _ _ _ (search rules) (search rules) (search rules) (search rules) (search rules) (search rules) (search rules) (search rules) (search rules))

pub returns-then-eq-clause-step : goal.returns-then-eq-clause-step
returns-then-eq-clause-step g c =
    let first : c.args.self.now.place ≡ First = search rules in
    let asks = c.in-Asks.ensures in
    let request = c.read.ensures.request in
    let zero = rw first at asks.id in
    whole_step _ _ _ _ _ (search rules)
    (asks.none, record { place = refl; ids = refl; from = λ n at. cc (first, at) })
    (search rules) (search rules) (first_asks c.args.self.now c.in-Asks.id (g.C.Controller.seen c.args.ctl.now) (g.C.Controller.seen c.read.new.ctl) c.read.ensures.first) (search rules) (search rules) (inr (room_asked _ _ _ asks c.requires.first))
    (λ h.
    let read = c.in-Ok-Absent.ensures.honest h in
    let answers = rw c.in-Ok-Absent.field-0-is at read.answers in
    record {
      stays = read.stays;
      answers = (answers.0, rw first (rw zero at answers.1));
      keeps = λ some none. let kept = read.keeps some none in (kept.none_given, λ ok. kept.held);
      calls = λ same. rw (← asks.id) (c.in-Ok-Absent.ensures.row_calls h same);
      plain = λ p holds. let after = read.plain p (record { held = holds.held }) in record { holds = record { held = after.0.holds.held }; part = after.0.part; ahead = after.0.ahead; fine = tt };
    })

pub returns-in-Ok-Whole-clause-step : goal.returns-in-Ok-Whole-clause-step
returns-in-Ok-Whole-clause-step g c =
    let asks = c.in-Asks.ensures in
    let old = c.args.self.now in
    let out = c.hand_out.ensures in
    let leaves = rw c.in-Ok-Whole.field-0-is at c.in-Ok-Whole.ensures.leaves in
    let row = handed_row-whole c.hand_out.new.self c.hand_out.result old.place c.in-Asks.id c.read.new.self out.id out.next out.len out.retrieval in
    let room = rw out.retrieval at out.buffer_len in
    let shelf = c.read.ensures.request.shelf in
    whole_step _ _ _ _ _ (search rules)
    (asks.none, hands_out _ _ c.in-Asks.id c.read.new.self _ row asks c.requires.first out.place out.ids out.at_most out.next_fits shelf room leaves.0 leaves.1 leaves.2 (rw out.retrieval leaves.3))
    (search rules) (search rules) (first_asks c.args.self.now c.in-Asks.id (g.C.Controller.seen c.args.ctl.now) (g.C.Controller.seen c.read.new.ctl) c.read.ensures.first) (search rules) (search rules) (inr (room_asked _ _ _ asks c.requires.first))
    (λ h.
    let read = c.in-Ok-Whole.ensures.honest h in
    let answers = rw c.in-Ok-Whole.field-0-is at read.answers in
    let found = look-whole_row old.place old.ids c.in-Asks.id c.read.new.self _ answers.1.0 read.stays.honest asks c.read.ensures.request.id answers.1.1 answers.1.2 leaves.0 in
    record {
      stays = read.stays;
      answers = (answers.0, rw (row, ← asks.id, ← c.read.ensures.request.shelf) found);
      keeps = λ some none. let kept = read.keeps some none in rw out.retrieval (kept.none_given, λ ok. kept.held);
      calls = λ same. rw (← asks.id, out.retrieval) (c.in-Ok-Whole.ensures.row_calls h same);
      plain = λ p holds.
          let after = read.plain p (record { held = holds.held }) in
          record { holds = record { held = rw out.retrieval after.0.holds.held }; part = rw out.retrieval after.0.part; ahead = rw out.retrieval after.0.ahead; fine = tt };
    })

pub returns-else-eq-clause-step : goal.returns-else-eq-clause-step
returns-else-eq-clause-step g c = rw (c.fail-in-Ok-Absent.ensures.answers, c.fail-in-Ok-Absent.ensures.leaves) (whole_step _ _ _ _ _ (search rules) (search rules) (search rules) (search rules) (first_asks c.args.self.now c.in-Asks.id (g.C.Controller.seen c.args.ctl.now) (g.C.Controller.seen c.read.new.ctl) c.read.ensures.first) (search rules) (search rules) (inr (room_asked _ _ _ c.in-Asks.ensures c.requires.first)) (search rules))

pub returns-in-Err-clause-step : goal.returns-in-Err-clause-step
returns-in-Err-clause-step g c = rw (c.fail-in-Err.ensures.answers, c.fail-in-Err.ensures.leaves) (whole_step _ _ _ _ _ (search rules) (search rules) (search rules) (search rules) (first_asks c.args.self.now c.in-Asks.id (g.C.Controller.seen c.args.ctl.now) (g.C.Controller.seen c.read.new.ctl) c.read.ensures.first) (search rules) (search rules) (inr (room_asked _ _ _ c.in-Asks.ensures c.requires.first)) (search rules))

pub returns-in-Ok-Whole-clause-cursor : goal.returns-in-Ok-Whole-clause-cursor
returns-in-Ok-Whole-clause-cursor g c =
    let out = c.hand_out.ensures in
    let same = c.read.ensures.request in
    is_cursor-after c.args.self.now _ c.requires (rw out.retrieval same.some) (rw out.retrieval same.part)
    (λ at_start. absurd (place_after-not_first c.hand_out.result.next (sym out.place ∙ at_start)))

pub returns-then-eq-clause-cursor : goal.returns-then-eq-clause-cursor
returns-then-eq-clause-cursor g c =
    let same = c.read.ensures.request in is_cursor-after c.args.self.now _ c.requires same.some same.part (λ at_start. cc)

pub returns-else-eq-clause-cursor : goal.returns-else-eq-clause-cursor
returns-else-eq-clause-cursor g c =
    let same = c.read.ensures.request in rw c.fail-in-Ok-Absent.ensures.leaves (is_cursor-after c.args.self.now _ c.requires same.some same.part c.requires.first)

pub returns-in-Err-clause-cursor : goal.returns-in-Err-clause-cursor
returns-in-Err-clause-cursor g c =
    let same = c.read.ensures.request in rw c.fail-in-Err.ensures.leaves (is_cursor-after c.args.self.now _ c.requires same.some same.part c.requires.first)
