use Rattle.std.proofs.Common.{rules}
use Rattle.ipmi_capture.specs.Left.{IsStateOf}
use Rattle.ipmi_capture.proofs.LogLemmas.{while_again}
use Rattle.ipmi_capture.proofs.StepLemmas.{again_cleared, walks_all_ok, while_all_ok}
use Rattle.ipmi_bus.specs.Seen.{stays_trans}
use Rattle.ipmi_capture.proofs.walks.capture_shelf.Goals as goal

pub walks-preserved : goal.walks-preserved
walks-preserved g c =
    again_cleared c.walks.invariant c.walk_shelf.ensures.beside c.walk_shelf.ensures.calls c.walk_shelf.ensures.asked
    c.walk_shelf.ensures.stays c.clear_records.ensures c.in-Ok-Some-Missing.ensures.honest

pub returns-clause-honest : goal.returns-clause-honest
returns-clause-honest g c =
    walks_all_ok c.walks.invariant c.walk_shelf-2.ensures.beside c.walk_shelf-2.ensures.calls c.walk_shelf-2.ensures.asked c.walk_shelf-2.ensures.stays
    (IsStateOf g.C.Controller.seen) c.walk_shelf-2.result c.walk_shelf-2.ensures.honest

pub returns-in-Ok-clause-honest : goal.returns-in-Ok-clause-honest
returns-in-Ok-clause-honest g c = search (
  rules,
  walks_all_ok c.walks.invariant c.walk_shelf.ensures.beside c.walk_shelf.ensures.calls c.walk_shelf.ensures.asked c.walk_shelf.ensures.stays
      (IsStateOf g.C.Controller.seen) c.walk_shelf.result c.walk_shelf.ensures.honest,
)

pub returns-clause-meanwhile : goal.returns-clause-meanwhile
returns-clause-meanwhile g c =
    while_all_ok c.walks.invariant c.walk_shelf-2.ensures.beside c.walk_shelf-2.ensures.calls c.walk_shelf-2.ensures.asked c.walk_shelf-2.ensures.stays
    c.walk_shelf-2.result c.walk_shelf-2.ensures.meanwhile

pub returns-in-Ok-clause-meanwhile : goal.returns-in-Ok-clause-meanwhile
returns-in-Ok-clause-meanwhile g c = λ h.
    let before = c.walks.invariant.stays h in
    search (rules, while_again (g.C.Controller.seen c.args.ctl.now) (g.C.Controller.seen c.walks.ctl) (g.C.Controller.seen c.walk_shelf.new.ctl) before (c.walk_shelf.ensures.stays before.honest) (c.in-Ok.ensures.meanwhile before.honest))

pub returns-clause-calls : goal.returns-clause-calls
returns-clause-calls g c = search rules

pub returns-in-Ok-clause-stays : goal.returns-in-Ok-clause-stays
returns-in-Ok-clause-stays g c = λ h. let before = c.walks.invariant.stays h in stays_trans _ _ _ before (c.walk_shelf.ensures.stays before.honest)

pub returns-in-Err-clause-stays : goal.returns-in-Err-clause-stays
returns-in-Err-clause-stays g c = λ h. let before = c.walks.invariant.stays h in stays_trans _ _ _ before (c.walk_shelf.ensures.stays before.honest)

pub returns-clause-stays : goal.returns-clause-stays
returns-clause-stays g c = λ h. let before = c.walks.invariant.stays h in stays_trans _ _ _ before (c.walk_shelf-2.ensures.stays before.honest)
