-- How to proceed after a failed call for a value or for the size of an inventory.
use Rattle.std.specs.Prelude.{◌≡◌, ℕ, ◌+◌, ◌<◌, ◌≤◌, Result, Ok, Err}
use Rattle.ipmi_bus.specs.Types.{Busy, Cancelled, Code, CodeClass, Ended, GaveUp, NotPresent, Refused, ValueFailure}
use Rattle.ipmi_bus.specs.Seen.{Seen}

-- one more trouble: it is followed by `again`, or it exceeds the tries
abbrev pub TroubleIs : {V E : Type 0} → V → E → ℕ → ℕ → Result V E → Type 0
TroubleIs again gave_up troubles tries (Ok v) = (v ≡ again) × (troubles < tries)
TroubleIs again gave_up troubles tries (Err e) = (e ≡ gave_up) × (tries ≤ troubles)

-- a failed call for a value, by the class of its code: a request for a smaller part is a refusal
abbrev pub ValueFailureIs : CodeClass → Code → ℕ → ℕ → ℕ → Result ValueFailure Ended → Type 0
ValueFailureIs Cancelled code id troubles tries result =
    TroubleIs ValueFailure.Again (GaveUp id) troubles tries result
ValueFailureIs Busy code id troubles tries result =
    TroubleIs ValueFailure.Again (GaveUp id) troubles tries result
ValueFailureIs NotPresent code id troubles tries result = result ≡ Ok ValueFailure.Absent
ValueFailureIs _ code id troubles tries result = result ≡ Err (Refused id code)

-- there were this many troubles and no refusal
pub record HasMet (troubles : ℕ) (s s' : Seen) : Type 0 where
  pub troubles_are : s'.troubles ≡ s.troubles + troubles
  pub refusals : s'.refusals ≡ s.refusals
  pub last_code : s'.last_code ≡ s.last_code
