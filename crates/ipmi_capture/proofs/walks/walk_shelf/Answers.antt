use Rattle.std.proofs.Common.{◌≡◌, Ok, arith, ap, refl, sym, ◌∙◌}
use Rattle.ipmi_capture.specs.Below.{rows_of}
use Rattle.ipmi_capture.proofs.CountLemmas.{is_state}
use Rattle.ipmi_capture.proofs.StepLemmas.{calls_on, came_done, came_ended, done_while, done_whole, ended_while, has_ended, ids_next, is_malformed, never_malformed, rows_of-with_rows, walked_more, walked_none}
use Rattle.ipmi_bus.specs.Seen.{stays_trans}
use Rattle.ipmi_capture.proofs.walks.walk_shelf.Goals as goal

pub records-init : goal.records-init
records-init g c =
    rw c.read_ahead.ensures (walked_none c.args.shelf c.args.asking.part c.args.asking.tries _ c.in_ok-cursor.cursor c.args.image.now c.requires.some c.requires.none c.in_ok-cursor.ensures.fresh c.in_ok-cursor.ensures.stands)

pub returns-in-Ok-None-clause-calls : goal.returns-in-Ok-None-clause-calls
returns-in-Ok-None-clause-calls g c = calls_on c.records.invariant c.step.follows.holds-at-none

pub returns-in-Ok-None-clause-honest : goal.returns-in-Ok-None-clause-honest
returns-in-Ok-None-clause-honest g c =
    let step = rw (c.in-Ok-None.is ∙ ap Ok c.in-Ok-None.field-0-is) at c.step.follows.holds-at-none in
    λ h. came_done c.records.invariant step refl h

pub returns-in-Err-clause-calls : goal.returns-in-Err-clause-calls
returns-in-Err-clause-calls g c = calls_on c.records.invariant c.step.follows.holds-at-none

pub returns-in-Err-clause-honest : goal.returns-in-Err-clause-honest
returns-in-Err-clause-honest g c =
    let step = rw c.in-Err.is at c.step.follows.holds-at-none in
    λ h. came_ended c.records.invariant step (is_state g.C.Controller.seen c.records.ctl) (is_state g.C.Controller.seen c.step.new.ctl) c.in-Err.ended refl h

pub returns-in-Ok-None-clause-meanwhile : goal.returns-in-Ok-None-clause-meanwhile
returns-in-Ok-None-clause-meanwhile g c =
    let step = rw (c.in-Ok-None.is ∙ ap Ok c.in-Ok-None.field-0-is) at c.step.follows.holds-at-none in
    λ h. done_while c.records.invariant step refl h

pub returns-in-Err-clause-meanwhile : goal.returns-in-Err-clause-meanwhile
returns-in-Err-clause-meanwhile g c =
    let step = rw c.in-Err.is at c.step.follows.holds-at-none in
    λ h. ended_while c.records.invariant step c.in-Err.ended refl h

pub returns-in-Ok-false-clause-meanwhile : goal.returns-in-Ok-false-clause-meanwhile
returns-in-Ok-false-clause-meanwhile g c =
    let step = rw (c.in-Ok-Some.is ∙ ap Ok c.in-Ok-Some.field-0-is) at c.step.follows.holds-at-none in
    let left = sym c.in-Ok-false.ensures.put.0 ∙ c.in-Ok-false.field-0-test in
    λ h. absurd (never_malformed c.records.invariant step refl left h)

pub records-smaller : goal.records-smaller
records-smaller g c =
    let step = rw (c.in-Ok-Some.is ∙ ap Ok c.in-Ok-Some.field-0-is) at c.step.follows.holds-at-none in
    let ids = ids_next c.records.invariant step refl in
    omega (arith, ids.0, ids.1)

pub records-preserved : goal.records-preserved
records-preserved g c =
    let step = rw (c.in-Ok-Some.is ∙ ap Ok c.in-Ok-Some.field-0-is) at c.step.follows.holds-at-none in
    walked_more c.records.invariant step refl (rw c.in-Ok-true.field-0-test at c.in-Ok-true.ensures.put.1)

pub returns-in-Ok-false-clause-calls : goal.returns-in-Ok-false-clause-calls
returns-in-Ok-false-clause-calls g c = calls_on c.records.invariant c.step.follows.holds-at-none

pub returns-in-Ok-false-clause-honest : goal.returns-in-Ok-false-clause-honest
returns-in-Ok-false-clause-honest g c =
    let step = rw (c.in-Ok-Some.is ∙ ap Ok c.in-Ok-Some.field-0-is) at c.step.follows.holds-at-none in
    let left = sym c.in-Ok-false.ensures.put.0 ∙ c.in-Ok-false.field-0-test in
    λ h. absurd (never_malformed c.records.invariant step refl left h)

pub returns-in-Err-put_record-clause-calls : goal.returns-in-Err-put_record-clause-calls
returns-in-Err-put_record-clause-calls g c = calls_on c.records.invariant c.step.follows.holds-at-none

pub returns-in-Ok-None-clause-stays : goal.returns-in-Ok-None-clause-stays
returns-in-Ok-None-clause-stays g c = λ h. let before = c.records.invariant.stays h in stays_trans _ _ _ before (c.step.ensures.answers before.honest).0

pub returns-in-Err-clause-stays : goal.returns-in-Err-clause-stays
returns-in-Err-clause-stays g c = λ h. let before = c.records.invariant.stays h in stays_trans _ _ _ before (c.step.ensures.answers before.honest).0

pub returns-in-Ok-false-clause-stays : goal.returns-in-Ok-false-clause-stays
returns-in-Ok-false-clause-stays g c = λ h. let before = c.records.invariant.stays h in stays_trans _ _ _ before (c.step.ensures.answers before.honest).0

pub returns-in-Err-put_record-clause-stays : goal.returns-in-Err-put_record-clause-stays
returns-in-Err-put_record-clause-stays g c = λ h. let before = c.records.invariant.stays h in stays_trans _ _ _ before (c.step.ensures.answers before.honest).0

pub returns-in-Ok-None-clause-ends : goal.returns-in-Ok-None-clause-ends
returns-in-Ok-None-clause-ends g c =
    let step = rw (c.in-Ok-None.is ∙ ap Ok c.in-Ok-None.field-0-is) at c.step.follows.holds-at-none in
    done_whole c.records.invariant step refl

pub returns-in-Err-clause-ends : goal.returns-in-Err-clause-ends
returns-in-Err-clause-ends g c =
    let step = rw c.in-Err.is at c.step.follows.holds-at-none in
    has_ended c.records.invariant step c.in-Err.ended refl

pub returns-in-Ok-false-clause-ends : goal.returns-in-Ok-false-clause-ends
returns-in-Ok-false-clause-ends g c =
    let step = rw (c.in-Ok-Some.is ∙ ap Ok c.in-Ok-Some.field-0-is) at c.step.follows.holds-at-none in
    let left = sym c.in-Ok-false.ensures.put.0 ∙ c.in-Ok-false.field-0-test in
    let same : rows_of c.args.shelf c.put_record.new.self ≡ rows_of c.args.shelf c.records.image =
    ap (rows_of c.args.shelf) (rw c.in-Ok-false.field-0-test at c.in-Ok-false.ensures.put.1) ∙ rows_of-with_rows c.args.shelf _ _ in
    rw same (is_malformed c.records.invariant step refl left)
