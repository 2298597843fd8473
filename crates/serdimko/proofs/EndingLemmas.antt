-- What the line at the end of objects leaves.
use Rattle.std.proofs.Common.{◌≡◌, ◌∙◌, Result, Ok, Err, List, ℕ, ◌++◌, ap, length, sym}
use Rattle.std.specs.Prelude.{OnErr}
use Rattle.std.proofs.Math.Seq.{take-length}
use Rattle.ipmi_output.specs.Sink.{TakesPart}

-- where the whole line was taken, and the flush failed, a part was taken
pub part_or_ok : {T E : Type 0} (result : Result T E) (old middle new line : List ℕ) → middle ≡ old ++ line
    → new ≡ middle → OnErr result (TakesPart old new line)
part_or_ok (Ok done) old middle new line first second = tt
part_or_ok (Err fault) old middle new line first second =
    (length line, second ∙ first ∙ ap (λ (l : List ℕ). old ++ l) (sym (take-length line)))
