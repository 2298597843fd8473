use Rattle.std.proofs.Common.{arith}
use Rattle.ipmi_commands.specs.Prelude.{inventory_call_bound}
use Rattle.ipmi_commands.proofs.DeviceLemmas.{fewer_calls, leads_no_further, leads_on, leads_to_end}
use Rattle.ipmi_commands.proofs.PartLemmas.{listed_spares}
use Rattle.ipmi_commands.specs.Below.{IsStateOf}
use Rattle.ipmi_commands.proofs.devices.print_located.Goals as goal

pub records-preserved : goal.records-preserved
records-preserved g c = (
  omega (arith, c.records.invariant.0, c.in-Ok.ensures.faults),
  omega (arith, c.records.invariant.1, c.print_locator.ensures.asked),
  fewer_calls _ _ c.in-Some.bytes.now (inventory_call_bound c.args.limits.tries 65535) _ _ _ c.in-Some.ensures.0 c.records.invariant.2 c.print_locator.ensures.calls,
  λ h.
      let before = c.records.invariant.3 h in
      leads_on (g.F.Format.texts c.args.format.now) c.args.walked c.args.limits.tries c.in-Some.bytes.now _ c.in-Some.ensures.0 before.1 (c.in-Ok.ensures.honest before.0),
)

pub returns-in-Err-clause-honest : goal.returns-in-Err-clause-honest
returns-in-Err-clause-honest g c = λ h.
    let before = c.records.invariant.3 h in
    leads_no_further (g.F.Format.texts c.args.format.now) c.args.walked c.args.limits.tries c.in-Some.bytes.now _ c.in-Err.failure c.in-Some.ensures.0 before.1 (c.in-Err.ensures.honest before.0)

pub returns-clause-honest : goal.returns-clause-honest
returns-clause-honest g c = λ h.
    let before = c.records.invariant.3 h in
    rw c.listed_end.ensures (leads_to_end (g.F.Format.texts c.args.format.now) c.args.walked c.args.limits.tries c.in_default.ensures before.0 before.1)

pub returns-in-Err-clause-parts : goal.returns-in-Err-clause-parts
returns-in-Err-clause-parts g c = λ h. c.in-Err.ensures.parts (c.records.invariant.3 h).0

pub returns-clause-parts : goal.returns-clause-parts
returns-clause-parts g c = λ h. rw c.listed_end.ensures (listed_spares c.args.limits.tries (IsStateOf g.C.Controller.seen) _ c.args.walked)
