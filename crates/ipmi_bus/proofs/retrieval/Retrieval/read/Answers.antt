use Rattle.std.proofs.Common.{◌≡◌, Ok, rules}
use Rattle.std.proofs.lemmas.Result.{err_from_is_err_and}
use Rattle.ipmi_bus.specs.Prelude.{Retrieval, Found, Over, Whole, Absent, CallLeaves}
use Rattle.ipmi_bus.proofs.SinceLemmas.{since_more, fewer_left, call_bound, row_bound, first_request}
use Rattle.ipmi_bus.proofs.retrieval.Retrieval.read.Goals as goal

pub reading-preserved : goal.reading-preserved
reading-preserved g c =
    let since = c.reading.invariant in
    let call = c.make_call.ensures in
    let leaves = rw c.in-Again.is at c.in_ok-make_call.ensures.leaves in
    let honest = rw c.in-Again.is at c.in_ok-make_call.ensures.honest in
    since_more _ _ _ _ _ _ since call.request call.counted call.asked leaves call.stays (λ h. honest _ _ since.request (since.honest h))

same_part : (now new : Retrieval) (found : Found) → CallLeaves now new (Ok (Over found)) → new.part ≡ now.part
same_part now new Whole leaves = leaves.0
same_part now new Absent leaves = leaves

pub returns-in-Over-clause-calls : goal.returns-in-Over-clause-calls
returns-in-Over-clause-calls g c =
    let same = same_part c.reading.self c.make_call.new.self c.in-Over.found (rw c.in-Over.is at c.in_ok-make_call.ensures.leaves) in
    call_bound c.args.self.now c.args.id c.reading.self c.make_call.new.self (g.C.Controller.seen c.args.ctl.now) (g.C.Controller.seen c.reading.ctl) (g.C.Controller.seen c.make_call.new.ctl) c.reading.invariant c.make_call.ensures.counted same

pub returns-in-Over-clause-first : goal.returns-in-Over-clause-first
returns-in-Over-clause-first g c =
    first_request c.args.self.now c.args.id c.reading.self c.make_call.new.self (g.C.Controller.seen c.args.ctl.now) (g.C.Controller.seen c.reading.ctl) (g.C.Controller.seen c.make_call.new.ctl) c.reading.invariant c.make_call.ensures.counted c.make_call.ensures.last

pub returns-in-Over-clause-row_calls : goal.returns-in-Over-clause-row_calls
returns-in-Over-clause-row_calls g c =
    let call = c.make_call.ensures in
    let same = same_part c.reading.self c.make_call.new.self c.in-Over.found (rw c.in-Over.is at c.in_ok-make_call.ensures.leaves) in
    row_bound c.args.self.now c.args.id c.reading.self c.make_call.new.self _ _ _ c.reading.invariant call.counted call.stays same

pub returns-in-Over-clause-honest : goal.returns-in-Over-clause-honest
returns-in-Over-clause-honest g c = λ h.
    let since = c.reading.invariant in
    let honest = rw c.in-Over.is at c.in_ok-make_call.ensures.honest in honest _ _ since.request (since.honest h)

pub returns-in_err-make_call-clause-calls : goal.returns-in_err-make_call-clause-calls
returns-in_err-make_call-clause-calls g c =
    call_bound c.args.self.now c.args.id c.reading.self c.make_call.new.self (g.C.Controller.seen c.args.ctl.now) (g.C.Controller.seen c.reading.ctl) (g.C.Controller.seen c.make_call.new.ctl) c.reading.invariant c.make_call.ensures.counted c.in_err-make_call.ensures.leaves.0

pub returns-in_err-make_call-clause-first : goal.returns-in_err-make_call-clause-first
returns-in_err-make_call-clause-first g c =
    first_request c.args.self.now c.args.id c.reading.self c.make_call.new.self (g.C.Controller.seen c.args.ctl.now) (g.C.Controller.seen c.reading.ctl) (g.C.Controller.seen c.make_call.new.ctl) c.reading.invariant c.make_call.ensures.counted c.make_call.ensures.last

pub returns-in_err-make_call-clause-row_calls : goal.returns-in_err-make_call-clause-row_calls
returns-in_err-make_call-clause-row_calls g c =
    let call = c.make_call.ensures in row_bound c.args.self.now c.args.id c.reading.self c.make_call.new.self _ _ _ c.reading.invariant call.counted call.stays c.in_err-make_call.ensures.leaves.0

pub returns-in_err-make_call-clause-honest : goal.returns-in_err-make_call-clause-honest
returns-in_err-make_call-clause-honest g c = λ h.
    let since = c.reading.invariant in
    let out = err_from_is_err_and c.from_residual.result c.from_residual.ensures.1 in
    rw (out.1, out.2) (c.in_err-make_call.ensures.honest _ _ since.request (since.honest h))

pub reading-smaller : goal.reading-smaller
reading-smaller g c =
    let since = c.reading.invariant in
    fewer_left _ _ _ since.request c.make_call.ensures.request (rw c.in-Again.is at c.in_ok-make_call.ensures.leaves)

pub reading-init : goal.reading-init
reading-init g c = search rules
