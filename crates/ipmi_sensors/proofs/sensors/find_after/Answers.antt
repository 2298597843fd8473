use Rattle.std.proofs.Common.{rules, Ok, ◌∙◌, ap, arith}
use Rattle.ipmi_bus.specs.Lent.{row_of_record}
use Rattle.ipmi_commands.proofs.CallLemmas.{len-next_ids}
use Rattle.ipmi_sensors.proofs.SensorLemmas.{adds_more, adds_none, done_calls, ended_calls, lost_calls, search_begun, search_done, search_ended, search_lost, search_more}
use Rattle.ipmi_sensors.proofs.sensors.find_after.Goals as goal

pub records-init : goal.records-init
records-init g c = (search rules, adds_none _ _, search_begun _ _ _ _ _ c.requires.shelf c.requires.tries c.requires.room)

pub returns-in-Ok-None-clause-calls : goal.returns-in-Ok-None-clause-calls
returns-in-Ok-None-clause-calls g c =
    done_calls c.records.invariant.2 (rw (c.in-Ok-None.is ∙ ap Ok c.in-Ok-None.field-0-is) at c.step.follows.holds-at-none)

pub returns-in-Ok-None-clause-honest : goal.returns-in-Ok-None-clause-honest
returns-in-Ok-None-clause-honest g c =
    search_done c.records.invariant.2 (rw (c.in-Ok-None.is ∙ ap Ok c.in-Ok-None.field-0-is) at c.step.follows.holds-at-none)

pub returns-in-Err-clause-calls : goal.returns-in-Err-clause-calls
returns-in-Err-clause-calls g c =
    ended_calls c.records.invariant.2 c.in-Err.ended (rw c.in-Err.is at c.step.follows.holds-at-none)

pub returns-in-Err-clause-honest : goal.returns-in-Err-clause-honest
returns-in-Err-clause-honest g c =
    search_ended c.records.invariant.2 c.in-Err.ended (rw c.in-Err.is at c.step.follows.holds-at-none)

pub records-smaller : goal.records-smaller
records-smaller g c =
    let step = rw (c.in-Ok-Some.is ∙ ap Ok c.in-Ok-Some.field-0-is) at c.step.follows.holds-at-none in
    omega (arith, len-next_ids c.records.cursor c.step.follows.lender-at-none (row_of_record c.in-Ok-Some.record) step.leaves.1, step.leaves.1.at_most)

pub records-preserved : goal.records-preserved
records-preserved g c =
    let step = rw (c.in-Ok-Some.is ∙ ap Ok c.in-Ok-Some.field-0-is) at c.step.follows.holds-at-none in (
      omega (arith, c.records.invariant.0, c.records.invariant.2.called.keeps.part_falls, step.asked, c.find_in.ensures.asked),
      adds_more _ _ _ _ c.records.invariant.1 c.find_in.ensures.adds,
      search_more c.records.invariant.2 step _ c.find_in.ensures.calls _ c.in-Ok.ensures.honest,
    )

pub returns-in-Err-find_in-clause-calls : goal.returns-in-Err-find_in-clause-calls
returns-in-Err-find_in-clause-calls g c =
    let step = rw (c.in-Ok-Some.is ∙ ap Ok c.in-Ok-Some.field-0-is) at c.step.follows.holds-at-none in
    lost_calls c.records.invariant.2 step (g.C.Controller.seen c.find_in.new.ctl) c.find_in.ensures.calls

pub returns-in-Err-find_in-clause-honest : goal.returns-in-Err-find_in-clause-honest
returns-in-Err-find_in-clause-honest g c =
    let step = rw (c.in-Ok-Some.is ∙ ap Ok c.in-Ok-Some.field-0-is) at c.step.follows.holds-at-none in
    rw (c.from.ensures, c.in-Err-find_in.ensures.kept) (search_lost c.records.invariant.2 step _ c.find_in.ensures.calls c.in-Err-find_in.unread c.in-Err-find_in.ensures.honest)

pub returns-in-Err-find_in-clause-adds : goal.returns-in-Err-find_in-clause-adds
returns-in-Err-find_in-clause-adds g c = adds_more _ _ _ _ c.records.invariant.1 c.find_in.ensures.adds

pub returns-in-Ok-None-clause-reaches : goal.returns-in-Ok-None-clause-reaches
returns-in-Ok-None-clause-reaches g c =
    let step = rw (c.in-Ok-None.is ∙ ap Ok c.in-Ok-None.field-0-is) at c.step.follows.holds-at-none in
    step.leaves.1.place

pub returns-in-Err-clause-reaches : goal.returns-in-Err-clause-reaches
returns-in-Err-clause-reaches g c = tt
