-- The number of troubles and refusals in the retrieval of a record, a reading, an info or an
-- inventory, by how it ended.
use Rattle.std.specs.Prelude.{◌≡◌, ℕ, ◌+◌, ◌<◌, ◌≤◌, ◌⊎◌, None, Some, IsSomeAnd, Result, Err}
use Rattle.ipmi_bus.specs.Types.{Busy, Cancelled, CodeClass, Cycle, Ended, FruEnded, GaveUp, Malformed, Missing, NotPresent, Refusal, Refused, SmallerPart, Stalled}
use Rattle.ipmi_bus.specs.Code.{class_of}
use Rattle.ipmi_bus.specs.Seen.{Seen}

-- at most `tries` troubles, and no refusal
pub record WithinTries (tries : ℕ) (old new : Seen) : Type 0 where
  pub grows : old.troubles ≤ new.troubles
  pub troubles : new.troubles ≤ old.troubles + tries
  pub refusals : new.refusals ≡ old.refusals
  pub last_code : new.last_code ≡ old.last_code

-- `tries` + 1 troubles, nothing finished between them, and no refusal
pub record GivesUp (tries : ℕ) (old new : Seen) : Type 0 where
  pub troubles : new.troubles ≡ old.troubles + tries + 1
  pub fresh_troubles : new.fresh_troubles ≡ old.fresh_troubles + tries + 1
  pub refusals : new.refusals ≡ old.refusals
  pub last_code : new.last_code ≡ old.last_code

-- `tries` + 1 troubles, and no refusal. If stores are added, something may be finished between the
-- troubles. Then fewer are fresh, but the last one still is.
pub record GivesUpOverChange (tries : ℕ) (old new : Seen) : Type 0 where
  pub troubles : new.troubles ≡ old.troubles + tries + 1
  pub some_fresh : 0 < new.fresh_troubles
  pub fresh_troubles : new.fresh_troubles ≤ old.fresh_troubles + tries + 1
  pub refusals : new.refusals ≡ old.refusals
  pub last_code : new.last_code ≡ old.last_code

-- at most `tries` troubles, and one refusal, with this code
pub record IsRefusedWith (tries code : ℕ) (old new : Seen) : Type 0 where
  pub grows : old.troubles ≤ new.troubles
  pub troubles : new.troubles ≤ old.troubles + tries
  pub refusals : new.refusals ≡ old.refusals + 1
  pub last_code : new.last_code ≡ code

abbrev pub NotGivenUpOrRefused : {V : Type 0} → Result V Ended → Type 0
NotGivenUpOrRefused (Err (GaveUp id)) = ⊥
NotGivenUpOrRefused (Err (Refused id code)) = ⊥
NotGivenUpOrRefused _ = Unit {0}

-- ---- over any controller: the last call agrees with how the retrieval ended

abbrev pub IsTrouble : CodeClass → Type 0
IsTrouble Cancelled = Unit {0}
IsTrouble Busy = Unit {0}
IsTrouble _ = ⊥

-- the classes of codes that refuse a call for `asked` bytes; 0 means a reservation for a record,
-- and the size for an inventory
abbrev pub RefusesRecord : ℕ → CodeClass → Type 0
RefusesRecord asked Refusal = Unit {0}
RefusesRecord asked NotPresent = asked ≡ 0
RefusesRecord asked SmallerPart = asked ≡ 0
RefusesRecord asked _ = ⊥

abbrev pub RefusesValue : ℕ → CodeClass → Type 0
RefusesValue asked Refusal = Unit {0}
RefusesValue asked SmallerPart = asked ≡ 0
RefusesValue asked _ = ⊥

abbrev pub RefusesInventory : ℕ → CodeClass → Type 0
RefusesInventory asked Refusal = Unit {0}
RefusesInventory asked NotPresent = Unit {0}
RefusesInventory asked SmallerPart = asked ≡ 0
RefusesInventory asked _ = ⊥

-- the last call failed with a code of a class that satisfies `Is`
abbrev pub LastFailed : (CodeClass → Type 0) → Seen → Type 0
LastFailed Is seen = IsSomeAnd seen.last_failure (λ code. Is (class_of code))

-- the last call was for a part, and succeeded; or it was for one byte, and its code asked for a
-- smaller part
abbrev pub LastGaveNothing : Seen → Type 0
LastGaveNothing seen =
    (0 < seen.last_asked) × ((seen.last_failure ≡ None)
    ⊎ (LastFailed (λ class. class ≡ SmallerPart) seen × (seen.last_asked ≡ 1)))

-- how the last call agrees with the end of a retrieval; a cycle is found without a call
abbrev pub LastCallSays : (ℕ → CodeClass → Type 0) → Ended → Seen → Type 0
LastCallSays Refuses (Cycle n) seen = Unit {0}
LastCallSays Refuses (Missing n) seen =
    (0 < seen.last_asked) × LastFailed (λ class. class ≡ NotPresent) seen
LastCallSays Refuses (Refused n code) seen =
    (seen.last_failure ≡ Some code.0) × Refuses seen.last_asked (class_of code.0)
LastCallSays Refuses (GaveUp n) seen = LastFailed IsTrouble seen
LastCallSays Refuses (Stalled n) seen = LastGaveNothing seen
LastCallSays Refuses (Malformed n) seen = (0 < seen.last_asked) × (seen.last_failure ≡ None)

-- the same for an inventory; out of memory happens between calls
abbrev pub LastFruCallSays : FruEnded → Seen → Type 0
LastFruCallSays FruEnded.Memory seen = Unit {0}
LastFruCallSays (FruEnded.Refused code) seen =
    (seen.last_failure ≡ Some code.0) × RefusesInventory seen.last_asked (class_of code.0)
LastFruCallSays FruEnded.GaveUp seen = LastFailed IsTrouble seen
LastFruCallSays FruEnded.Stalled seen = LastGaveNothing seen
LastFruCallSays FruEnded.Words seen = (seen.last_asked ≡ 0) × (seen.last_failure ≡ None)
