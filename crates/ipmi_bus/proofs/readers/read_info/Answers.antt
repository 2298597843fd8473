use Rattle.std.proofs.Common.{rules}
use Rattle.std.proofs.lemmas.Result.{err_from_is_err_and}
use Rattle.ipmi_bus.specs.Seen.{stays_trans}
use Rattle.ipmi_bus.proofs.ValueLemmas.{value_absent, value_failed}
use Rattle.ipmi_bus.proofs.readers.read_info.Goals as goal

pub returns-in_err-after_value_failure-in-Err-clause-honest : goal.returns-in_err-after_value_failure-in-Err-clause-honest
returns-in_err-after_value_failure-in-Err-clause-honest g c = λ h.
    let out = err_from_is_err_and c.from_residual.result c.from_residual.ensures.1 in
    let asked = c.asking.invariant.3 h in
    rw (out.1, out.2) (value_failed _ _ _ _ _ _ _ _ asked (c.in-Err.ensures.honest asked.stays.honest) _ c.asking.invariant.0 c.in_err-after_value_failure-in-Err.ensures)

pub returns-in-Absent-clause-honest : goal.returns-in-Absent-clause-honest
returns-in-Absent-clause-honest g c = λ h.
    let asked = c.asking.invariant.3 h in
    value_absent _ _ _ _ _ _ _ _ asked (c.in-Err.ensures.honest asked.stays.honest) c.asking.invariant.0 (rw c.in-Absent.is at c.in_ok-after_value_failure-in-Err.ensures)

pub returns-in_err-after_value_failure-in-Err-clause-ends : goal.returns-in_err-after_value_failure-in-Err-clause-ends
returns-in_err-after_value_failure-in-Err-clause-ends g c = search rules

pub returns-in-Ok-clause-honest : goal.returns-in-Ok-clause-honest
returns-in-Ok-clause-honest g c = λ h.
    let asked = c.asking.invariant.3 h in
    let told = c.in-Ok.ensures.honest asked.stays.honest in
    let all = stays_trans _ _ _ asked.stays told.change.stays in search rules

pub asking-preserved : goal.asking-preserved
asking-preserved g c = (
  search rules,
  search rules,
  search rules,
  λ h.
      let asked = c.asking.invariant.3 h in
      let told = c.in-Err.ensures.honest asked.stays.honest in
      let all = stays_trans _ _ _ asked.stays told.change.stays in search rules,
)
