use Rattle.std.proofs.Common.{Ok, Err, refl, sym, ◌∙◌}
use Rattle.ipmi_commands.proofs.AskLemmas.{passed}
use Rattle.ipmi_commands.proofs.NamedLemmas.{devices_run, events_run, names_failed, some_is}
use Rattle.ipmi_commands.proofs.PartLemmas.{after_spares, job_spares, walk_spares}
use Rattle.ipmi_selection.specs.declared.detail.Detail.{Detail}
use Rattle.ipmi_commands.specs.Below.{IsStateOf}
use Rattle.ipmi_selection.specs.Selection.{in_detail}
use Rattle.ipmi_commands.proofs.named.list_named.Goals as goal

pub returns-in_err-walked-clause-runs : goal.returns-in_err-walked-clause-runs
returns-in_err-walked-clause-runs g c =
    let reads = rw (c.new-records.ensures.taken, c.new.ensures.items, c.new-counted.ensures) at c.in_err-walked.ensures.reads in
    rw (passed _ _ c.from_residual.ensures.1) (names_failed (g.F.Format.texts c.args.format.now) c.args.limits.tries _ _ _ c.args.named reads.calls _ _ _ (sym reads.is) reads.ends reads.page)

pub returns-in_err-list_events-in-Events-clause-runs : goal.returns-in_err-list_events-in-Events-clause-runs
returns-in_err-list_events-in-Events-clause-runs g c =
    let reads = rw (c.new-records.ensures.taken, c.new.ensures.items, c.new-counted.ensures) at c.in_ok-walked.ensures.reads in
    rw (c.in-Events.is, passed _ _ c.from_residual-in_err-list_events-in-Events.ensures.1)
    (events_run (g.F.Format.texts c.args.format.now) c.what_is_found_is_a_row.ensures c.records_are_found_again.ensures c.args.limits.tries _ _ _ _ _ _ c.in-Events.selection _ _ (sym reads.is) reads.page
    c.in-Events.count c.in-Events.from (Err _) reads.calls
    (rw (some_is _ _ (c.into_inner-records.ensures.bytes (λ w. refl))) at c.in_err-list_events-in-Events.ensures.runs))

pub returns-in-Events-clause-runs : goal.returns-in-Events-clause-runs
returns-in-Events-clause-runs g c =
    let reads = rw (c.new-records.ensures.taken, c.new.ensures.items, c.new-counted.ensures) at c.in_ok-walked.ensures.reads in
    rw (c.in-Events.is, c.end.ensures)
    (events_run (g.F.Format.texts c.args.format.now) c.what_is_found_is_a_row.ensures c.records_are_found_again.ensures c.args.limits.tries _ _ _ _ _ _ c.in-Events.selection _ _ (sym reads.is) reads.page
    c.in-Events.count c.in-Events.from (Ok _) reads.calls
    (rw (some_is _ _ (c.into_inner-records.ensures.bytes (λ w. refl))) at c.in_ok-list_events-in-Events.ensures.runs))

pub returns-clause-runs : goal.returns-clause-runs
returns-clause-runs g c =
    let reads = rw (c.new-records.ensures.taken, c.new.ensures.items, c.new-counted.ensures) at c.in_ok-walked.ensures.reads in
    let bytes = c.deref.ensures.value ∙ some_is _ _ (c.into_inner-records.ensures.bytes (λ w. refl)) in
    let devices = c.print_devices.ensures in
    rw c.in-Devices.is
    (devices_run (g.F.Format.texts c.args.format.now) c.what_is_found_is_a_row.ensures c.records_are_found_again.ensures c.args.limits.tries _ _ _ _ _ _ (in_detail Detail.Line) _ _ (sym reads.is) reads.page
    c.print_devices.result reads.calls reads.whole (rw bytes at devices.calls) devices.ends (rw bytes at devices.honest))

pub returns-in_err-walked-clause-parts : goal.returns-in_err-walked-clause-parts
returns-in_err-walked-clause-parts g c = λ h.
    let reads = c.in_err-walked.ensures.reads in
    rw (passed _ _ c.from_residual.ensures.1) (walk_spares c.args.limits.tries (IsStateOf g.C.Controller.seen) _ reads.listed _ reads.ends (sym reads.is))

pub returns-in_err-list_events-in-Events-clause-parts : goal.returns-in_err-list_events-in-Events-clause-parts
returns-in_err-list_events-in-Events-clause-parts g c = λ h.
    rw (passed _ _ c.from_residual-in_err-list_events-in-Events.ensures.1)
    (job_spares (g.F.Format.texts c.args.format.now) c.args.limits.tries (IsStateOf g.C.Controller.seen) _ c.in-Events.count c.in-Events.from _ _ c.in_err-list_events-in-Events.ensures.runs.ends)

pub returns-in-Events-clause-parts : goal.returns-in-Events-clause-parts
returns-in-Events-clause-parts g c = λ h. rw c.end.ensures (after_spares c.args.limits.tries (IsStateOf g.C.Controller.seen) _ _)

pub returns-clause-parts : goal.returns-clause-parts
returns-clause-parts g c = λ h. c.print_devices.ensures.parts (c.in_ok-walked.ensures.reads.page h).ends.stays.honest
