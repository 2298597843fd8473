-- How to proceed after a failed call.
use Rattle.std.specs.Prelude.{◌≡◌, ℕ, ◌/◌, ◌<◌, ◌≤◌, ◌⊎◌, nat_lt, if◌then◌else◌, Option, None, Some}
use Rattle.ipmi_bus.specs.Types.{Busy, Cancelled, CodeClass, Failure, NotPresent, Refusal, SmallerPart}

-- half of the bytes asked for, rounded down; none if that was one byte
abbrev pub smaller_part : ℕ → Option ℕ
smaller_part asked = if nat_lt 1 asked then Some (asked / 2) else None

-- how to proceed after a failed call, by the class of its code and the number of earlier troubles
abbrev pub FailureIs : Failure → CodeClass → ℕ → ℕ → Type 0
FailureIs Failure.Again class troubles tries = (class ≡ Busy) × (troubles < tries)
FailureIs Failure.Anew class troubles tries = (class ≡ Cancelled) × (troubles < tries)
FailureIs Failure.GiveUp class troubles tries =
    ((class ≡ Busy) ⊎ (class ≡ Cancelled)) × (tries ≤ troubles)
FailureIs Failure.Smaller class troubles tries = class ≡ SmallerPart
FailureIs Failure.Absent class troubles tries = class ≡ NotPresent
FailureIs Failure.Refuse class troubles tries = class ≡ Refusal
