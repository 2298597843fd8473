-- How a run ends after its output is flushed.
use Rattle.std.specs.Prelude.{◌≡◌, ◌⊎◌, ℕ, List, [], Err}
use Rattle.ipmi_output.specs.Failure.{Ending}
use Rattle.ipmi_output.specs.declared.failure.Failure.{Failure}

-- the run ends as it did before the flush, or with a write fault
abbrev pub EndsBy : (Ending → Type 0) → Ending → Type 0
EndsBy Holds result = (ending : Ending) × Holds ending × ((result ≡ ending) ⊎ (result ≡ Err Failure.WriteFault))

-- the buffer is empty, unless there was a write fault
abbrev pub IsFlushed : List ℕ → Ending → Type 0
IsFlushed left (Err Failure.WriteFault) = Unit {0}
IsFlushed left ending = left ≡ []
