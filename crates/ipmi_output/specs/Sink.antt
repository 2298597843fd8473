-- The bytes taken by a call of a sink, and whether it was a fault.
use Rattle.std.specs.Prelude.{ℕ, ◌≡◌, List, [], ◌++◌, ◌==◌, Result, Ok, Err, take, if◌then◌else◌}

-- the first bytes, as many as the result says
abbrev pub taken_by : {E : Type 0} → Result ℕ E → List ℕ → List ℕ
taken_by (Ok n) bytes = take n bytes
taken_by (Err e) bytes = []

-- a call that takes no byte is a fault, and so is one that fails
abbrev pub faults_by : {E : Type 0} → Result ℕ E → ℕ
faults_by (Ok n) = if n == 0 then 1 else 0
faults_by (Err e) = 1

-- a prefix of the bytes was appended, possibly empty or all
abbrev pub TakesPart : List ℕ → List ℕ → List ℕ → Type 0
TakesPart old new bytes = (k : ℕ) × (new ≡ old ++ take k bytes)
