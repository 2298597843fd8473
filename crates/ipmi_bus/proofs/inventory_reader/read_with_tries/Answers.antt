use Rattle.std.proofs.Common.{arith, rules, ◌≡◌, ◌-◌, length}
use Rattle.std.proofs.lemmas.Result.{err_from_is_err_and}
use Rattle.ipmi_bus.specs.Prelude.{IsStateOf, Seen}
use Rattle.ipmi_bus.proofs.InventoryLemmas.{all_calls, all_read, bound_is, memory_failed, since_size, size_failed}
use Rattle.ipmi_bus.proofs.inventory_reader.read_with_tries.Goals as goal

pub returns-in_err-size-clause-honest : goal.returns-in_err-size-clause-honest
returns-in_err-size-clause-honest g c = λ h.
    let out = err_from_is_err_and c.from_residual.result c.from_residual.ensures.1 in
    let told = c.in_err-size.ensures in
    rw (out.1, out.2) (size_failed (IsStateOf g.C.Controller.seen) c.args.id c.args.tries c.args.tries_for _ _ _ (told.honest h) told.none h told.err)

pub returns-in_err-vec-clause-honest : goal.returns-in_err-vec-clause-honest
returns-in_err-vec-clause-honest g c = λ h.
    let out = err_from_is_err_and c.from_residual-in_err-vec.result c.from_residual-in_err-vec.ensures.1 in
    let size = c.in_ok-size.size in
    let told = c.in_ok-size.ensures in
    rw (out.1, out.2) (memory_failed (IsStateOf g.C.Controller.seen) c.args.id c.args.tries c.args.tries_for size _ _ (told.honest h) told.none h told.ok.0 told.ok.1)

pub returns-in_err-read_all-clause-calls : goal.returns-in_err-read_all-clause-calls
returns-in_err-read_all-clause-calls g c =
    let size = c.in_ok-size.size in
    let told = c.in_ok-size.ensures in
    let bytes = c.in_ok-vec.field-0 in
    let len : length bytes.items ≡ size.bytes = search rules in
    all_calls c.args.tries_for c.args.tries (length bytes.items - 0) 65535 size.troubles c.args.part _ _ told.ok.0 (omega (arith, len)) (omega (arith, told.ok.1, c.in_err-read_all.ensures.calls))

pub returns-clause-calls : goal.returns-clause-calls
returns-clause-calls g c =
    let size = c.in_ok-size.size in
    let told = c.in_ok-size.ensures in
    let bytes = c.in_ok-vec.field-0 in
    let len : length bytes.items ≡ size.bytes = search rules in
    all_calls c.args.tries_for c.args.tries (length bytes.items - 0) 65535 size.troubles c.args.part _ _ told.ok.0 (omega (arith, len)) (omega (arith, told.ok.1, c.in_ok-read_all.ensures.calls))

pub returns-in_err-read_all-clause-honest : goal.returns-in_err-read_all-clause-honest
returns-in_err-read_all-clause-honest g c = λ h.
    let S : Seen → Type 0 = IsStateOf g.C.Controller.seen in
    let out = err_from_is_err_and c.from_residual-in_err-read_all.result c.from_residual-in_err-read_all.ensures.1 in
    let size = c.in_ok-size.size in
    let told = c.in_ok-size.ensures in
    let read = c.in_err-read_all.ensures in
    let bytes = c.in_ok-vec.field-0 in
    let len : length bytes.items ≡ size.bytes = search rules in
    let ends = read.honest _ (since_size S c.args.id c.args.part c.args.tries c.args.tries_for size bytes _ _ (told.honest h) told.none h len) in
    let bound = bound_is S c.args.id c.args.part c.args.tries c.args.tries_for size bytes _ _ (told.honest h) told.none h len _ (read.stays (told.honest h).stays.honest) told.ok.0 told.ok.1 read.calls in
    rw (out.1, out.2) (record { stays = ends.2.stays; last = ends.0; counted = ends.1; counts = ends.2.counts; is = ends.2.is; calls = bound; plain = ends.2.plain })

pub returns-clause-honest : goal.returns-clause-honest
returns-clause-honest g c = λ h.
    let S : Seen → Type 0 = IsStateOf g.C.Controller.seen in
    let size = c.in_ok-size.size in
    let told = c.in_ok-size.ensures in
    let read = c.in_ok-read_all.ensures in
    let bytes = c.in_ok-vec.field-0 in
    let len : length bytes.items ≡ size.bytes = search rules in
    let all = read.honest _ (since_size S c.args.id c.args.part c.args.tries c.args.tries_for size bytes _ _ (told.honest h) told.none h len) in
    let same = read.same in
    all_read S c.args.id c.args.tries c.args.tries_for _ _ c.read_all.new.self all same.id same.tries same.tries_for same.troubles read.whole
    (bound_is S c.args.id c.args.part c.args.tries c.args.tries_for size bytes _ _ (told.honest h) told.none h len _ (read.stays (told.honest h).stays.honest) told.ok.0 told.ok.1 read.calls)
