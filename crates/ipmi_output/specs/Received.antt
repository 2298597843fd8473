-- The bytes that a message sink took, and the number of its faults.
use Rattle.std.specs.Prelude.{ℕ, ◌≡◌, ◌<◌, ◌+◌, List, Option, None, Result, MatchResult, length, take, option_map, ◌⊎◌}
use Rattle.std.specs.Io.KnownBytes.{Appends, WriteAppends}
use Rattle.ipmi_output.specs.Sink.{faults_by}

-- the bytes taken so far, and the number of calls that took none or failed, as far as known
pub record Received : Type 0 where
  pub taken : Option (List ℕ)
  pub faults : Option ℕ

-- for a plain writer: its contents, if contracts see them, and nothing about faults
abbrev pub of_writer : Option (List ℕ) → Received
of_writer contents = record { taken = contents; faults = None }

-- the effect of one call: the bytes it took, and its fault, if faults are known
abbrev pub Receives : {E : Type 0} → Received → Received → Result ℕ E → List ℕ → Type 0
Receives old new result bytes =
    WriteAppends old.taken new.taken result bytes
    × (new.faults ≡ option_map (λ n. n + faults_by result) old.faults)

-- all of the bytes were taken, and no call is known to have been a fault
abbrev pub ReceivesAll : Received → Received → List ℕ → Type 0
ReceivesAll old new bytes = Appends old.taken new.taken bytes × (new.faults ≡ old.faults)

-- a proper prefix of the bytes was taken; if faults are known, there is one more
abbrev pub ReceivesPart : Received → Received → List ℕ → Type 0
ReceivesPart old new bytes =
    (k : ℕ) × (k < length bytes) × Appends old.taken new.taken (take k bytes)
    × (new.faults ≡ option_map (λ n. n + 1) old.faults)

-- by the result: after `Ok` all bytes were taken, after `Err` a prefix
abbrev pub WritesAll : {T E : Type 0} → Received → Received → Result T E → List ℕ → Type 0
WritesAll old new result bytes =
    MatchResult result (λ _. ReceivesAll old new bytes) (λ _. ReceivesPart old new bytes)

-- whatever the result: all of the text was taken, or a prefix before a fault
abbrev pub ReceivesText : Received → Received → List ℕ → Type 0
ReceivesText old new text = ReceivesAll old new text ⊎ ReceivesPart old new text
