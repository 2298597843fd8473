use Rattle.std.proofs.Common.{refl, rules}
use Rattle.ipmi_bus.specs.Prelude.{IsStateOf}
use Rattle.ipmi_bus.specs.Seen.{stays_trans}
use Rattle.ipmi_bus.proofs.InventoryLemmas.{none_more}
use Rattle.ipmi_bus.proofs.inventory_reader.read_size.Goals as goal

pub asking-preserved : goal.asking-preserved
asking-preserved g c = (
  (
    search rules,
    search rules,
    search rules,
    λ h.
        let asked = c.asking.invariant.0.3 h in
        let told = c.in-Err.ensures.honest asked.stays.honest in
        let all = stays_trans _ _ _ asked.stays told.change.stays in search rules,
  ),
  none_more (IsStateOf g.C.Controller.seen) _ _ _ c.asking.invariant.1 (c.fru_size.new.self, refl) c.fru_size.ensures.counted,
)

pub returns-in-Ok-clause-none : goal.returns-in-Ok-clause-none
returns-in-Ok-clause-none g c =
    none_more (IsStateOf g.C.Controller.seen) _ _ _ c.asking.invariant.1 (c.fru_size.new.self, refl) c.fru_size.ensures.counted

pub returns-in_err-fail_size-in-Err-clause-none : goal.returns-in_err-fail_size-in-Err-clause-none
returns-in_err-fail_size-in-Err-clause-none g c =
    none_more (IsStateOf g.C.Controller.seen) _ _ _ c.asking.invariant.1 (c.fru_size.new.self, refl) c.fru_size.ensures.counted

pub returns-in-Ok-clause-honest : goal.returns-in-Ok-clause-honest
returns-in-Ok-clause-honest g c = λ h.
    let asked = c.asking.invariant.0.3 h in
    let told = c.in-Ok.ensures.honest asked.stays.honest in
    let all = stays_trans _ _ _ asked.stays told.change.stays in search rules

pub returns-in_err-fail_size-in-Err-clause-honest : goal.returns-in_err-fail_size-in-Err-clause-honest
returns-in_err-fail_size-in-Err-clause-honest g c = λ h.
    let asked = c.asking.invariant.0.3 h in
    let told = c.in-Err.ensures.honest asked.stays.honest in
    let all = stays_trans _ _ _ asked.stays told.change.stays in search rules
