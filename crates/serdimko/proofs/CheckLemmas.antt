-- What a check with status 0 says.
use Rattle.std.proofs.Common.{◌≡◌, ◌⊎◌, ◌∙◌, ℕ, Bool, inl, inr, is_err, is_some, List, [], Option, Result, String, arith, refl, sym}
use Rattle.std.specs.declared.alloc.AllocError.{AllocError}
use Rattle.std.specs.declared.alloc.Global.{Global}
use Rattle.ipmi_bus.specs.Seen.{Seen}
use Rattle.ipmi_check.proofs.OkLemmas.{failure_is_not_ok, ok_is_true}
use Rattle.ipmi_check.specs.Laws.{AllFine}
use Rattle.ipmi_check.specs.Verdict.{status_of}
use Rattle.ipmi_check.specs.declared.performance.Detail.{Detail}
use Rattle.ipmi_check.specs.declared.verdict.Verdict.{Verdict}
use Rattle.ipmi_commands.specs.Below.{Place}
use Rattle.ipmi_sensors.specs.Sensors.{Found, Searches}
use Rattle.ipmi_commands.specs.declared.limits.Tries.{Tries}
use Rattle.ipmi_sensors.specs.declared.sensors.Sought.{Sought}
use Rattle.ipmi_output.specs.Failure.{Ending}
use Rattle.serdimko.specs.Out.{Out}
use Rattle.serdimko.specs.Printing.{PrintsVerdict, SaysVerdict}
use Rattle.serdimko.specs.RunError.{error_of, lost_error}
use Rattle.serdimko.specs.declared.report.Report.{Report}

zero_is_ok : (verdict : Verdict) → status_of verdict ≡ 0 → verdict ≡ Verdict.Ok
zero_is_ok Verdict.Ok is = refl
zero_is_ok Verdict.Warning is = absurd (omega (arith, is))
zero_is_ok Verdict.Critical is = absurd (omega (arith, is))
zero_is_ok Verdict.Unknown is = absurd (omega (arith, is))

-- a verdict with status 0 was said
zero_was_said : (verdict : Verdict) (text : List ℕ) (old new : Out) (status : ℕ) → SaysVerdict verdict text old new status → status ≡ 0
    → verdict ≡ Verdict.Ok
zero_was_said verdict text old new status (inl said) zero = zero_is_ok verdict (sym said.3 ∙ zero)
zero_was_said verdict text old new status (inr lost) zero = absurd (omega (arith, lost.2, zero))

-- a run has an error exactly if its search failed
has_error : (said : Result (Option (String Global)) AllocError) (searched : Ending) (closed : Bool)
    → is_some (lost_error said (error_of searched Bool.false closed)) ≡ is_err searched
has_error said searched closed = grind arith

pub zero_is_fine : (report : Report) (detail : Detail) (sought : Sought) (start : Place) (tries : Tries) (s s' : Seen) (found : List Found) (searched : Ending)
    (said : Result (Option (String Global)) AllocError) (old new : Out) (status : ℕ)
    → Searches sought start tries s s' [] found searched
    → PrintsVerdict report found (lost_error said (error_of searched Bool.false Bool.false)) detail old new status → status ≡ 0
    → AllFine report.format.lacks.now sought start s s'
zero_is_fine report detail sought start tries s s' found searched said old new status searches (inl printed) zero =
    let lacks = report.format.lacks.now in
    let ok = zero_was_said _ printed.0 old new status printed.2 zero in
    ok_is_true lacks sought start tries s s' found searched searches (rw (has_error said searched Bool.false) at ok)
zero_is_fine report detail sought start tries s s' found searched said old new status searches (inr short) zero =
    let lacks = report.format.lacks.now in
    let ok = zero_was_said _ _ old new status short zero in
    not_both (failure_is_not_ok lacks found) ok
  where
    not_both : {verdict : Verdict} {Fine : Type 0} → (verdict ≡ Verdict.Critical) ⊎ (verdict ≡ Verdict.Unknown) → verdict ≡ Verdict.Ok → Fine
    not_both (inl is) ok = absurd (cc (is, ok))
    not_both (inr is) ok = absurd (cc (is, ok))
