use Rattle.std.proofs.Common.{arith}
use Rattle.std.proofs.lemmas.Result.{err_from_is_err_and}
use Rattle.ipmi_bus.specs.Prelude.{stays_trans}
use Rattle.ipmi_bus.proofs.InventoryLemmas.{same_trans}
use Rattle.ipmi_bus.proofs.inventory_reader.FruRetrieval.read_all.Goals as goal

pub parts-preserved : goal.parts-preserved
parts-preserved g c = (
  same_trans _ _ _ c.parts.invariant.0 c.in_ok-ask_part.ensures.same,
  omega (arith, c.parts.invariant.1, c.parts.invariant.0.part, c.in_ok-ask_part.ensures.counted.most_asked),
  omega (arith, c.parts.invariant.2, c.in_ok-ask_part.ensures.leaves, c.in_ok-ask_part.ensures.counted.calls),
  λ h. stays_trans _ _ _ (c.parts.invariant.3 h) (c.in_ok-ask_part.ensures.stays (c.parts.invariant.3 h).honest),
  λ s since. c.in_ok-ask_part.ensures.honest s (c.parts.invariant.4 s since),
)

pub returns-in_err-ask_part-clause-honest : goal.returns-in_err-ask_part-clause-honest
returns-in_err-ask_part-clause-honest g c = λ s since.
    let out = err_from_is_err_and c.from_residual.result c.from_residual.ensures.1 in
    let same = c.parts.invariant.0 in
    rw (out.1, out.2, ← same.id, ← same.tries, ← same.tries_for) (c.in_err-ask_part.ensures.honest s (c.parts.invariant.4 s since))

pub returns-in_err-ask_part-clause-stays : goal.returns-in_err-ask_part-clause-stays
returns-in_err-ask_part-clause-stays g c = λ h.
    let before = c.parts.invariant.3 h in stays_trans _ _ _ before (c.in_err-ask_part.ensures.stays before.honest)
