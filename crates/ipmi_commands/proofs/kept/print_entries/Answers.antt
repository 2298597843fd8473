use Rattle.std.proofs.Common.{ap, arith, length, length-drop}
use Rattle.std.proofs.lemmas.List.{nil_from_length}
use Rattle.ipmi_commands.proofs.KeptLemmas.{leads_no_further, leads_on, leads_to_end}
use Rattle.ipmi_commands.proofs.kept.print_entries.Goals as goal

pub entries-preserved : goal.entries-preserved
entries-preserved g c = (
  omega (arith, c.entries.invariant.0, c.in-Ok.ensures.faults),
  leads_on (g.F.Format.texts c.args.format.now) c.args.entries.now c.entries.invariant.1 c.in-Some.entry _ _ (rw c.in-Some.is at c.pop_front.ensures.items) c.in-Ok.ensures.prints,
)

pub returns-in-Err-clause-prints : goal.returns-in-Err-clause-prints
returns-in-Err-clause-prints g c =
    leads_no_further (g.F.Format.texts c.args.format.now) c.args.entries.now c.entries.invariant.1 c.in-Some.entry _ _ c.in-Err.failure (rw c.in-Some.is at c.pop_front.ensures.items) c.in-Err.ensures.prints

pub returns-clause-prints : goal.returns-clause-prints
returns-clause-prints g c =
    let same = rw c.in_default.is at c.pop_front.ensures.items in
    leads_to_end (g.F.Format.texts c.args.format.now) c.args.entries.now c.entries.invariant.1
    (nil_from_length _ (omega (arith, ap length same, ap length c.pop_front.ensures.rest, length-drop 1 c.entries.kept.entries.items)))
