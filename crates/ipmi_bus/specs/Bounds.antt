-- The largest number of calls in a retrieval.
use Rattle.std.specs.Prelude.{ℕ, ◌+◌, ◌*◌, ◌≤◌, nat_le, if◌then◌else◌}
use Rattle.ipmi_bus.specs.Seen.{Seen}

-- for a record of this length: each try makes at most one call for a reservation, one for each
-- byte, and one that fails
abbrev pub step_call_bound : ℕ → ℕ → ℕ
step_call_bound tries len = (tries + 1) * (len + 2)

-- for an inventory of this length: one call for its size, one for each byte, one for each trouble,
-- and one for each reduction of the part size, of which there are at most seven
abbrev pub fru_call_bound : ℕ → ℕ → ℕ
fru_call_bound tries len = len + tries + 8

-- the same if the calls for its size and for each byte have `tries` of their own
abbrev pub retrying_call_bound : ℕ → ℕ → ℕ
retrying_call_bound tries len = (tries + 1) * (len + 1) + 7

-- 1 if the number is at least this power of two, otherwise 0
abbrev pub reaches : ℕ → ℕ → ℕ
reaches power n = if nat_le power n then 1 else 0

-- The number of binary digits of a part size. Each reduction of the part size, to half or less,
-- removes at least one.
abbrev pub digits : ℕ → ℕ
digits n = reaches 1 n + reaches 2 n + reaches 4 n + reaches 8 n + reaches 16 n + reaches 32 n
    + reaches 64 n + reaches 128 n

-- a part size has at most eight binary digits
abbrev pub DigitsAreFew : Type 0
DigitsAreFew = (n : ℕ) → digits n ≤ 8

-- The number of calls is within the bound for a record of this length. Calls that reduced the part
-- size are additional: at most one for each binary digit that the part size lost.
abbrev pub AreWithin : ℕ → ℕ → ℕ → ℕ → Seen → Seen → Type 0
AreWithin tries len old_part new_part s s' =
    s'.calls + digits new_part ≤ s.calls + step_call_bound tries len + digits old_part
