-- Standard input, or the images that are named.
use Rattle.std.proofs.Common.{◌≡◌, ◌==◌, ◌⊎◌, ℕ, true, false, None, Option, Err, List, [], ◌∷◌, arith, inl, inr, length}
use Rattle.std.proofs.lemmas.Bool.Decides.{nat_tests}
use Rattle.ipmi_image.specs.Cause.{cause_of}
use Rattle.ipmi_image.specs.Snapshot.{saved_of_image}
use Rattle.ipmi_image.specs.declared.cause.FaultCause.{FaultCause}
use Rattle.ipmi_image.specs.declared.image.ImageFault.{ImageFault}
use Rattle.ipmi_output.specs.Received.{Received}
use Rattle.serdimko.specs.Images.{IsFaultOf, PrintsImage, PrintsEach, PrintsOne}
use Rattle.serdimko.specs.Out.{Out}
use Rattle.serdimko.specs.Printing.{Each}
use Rattle.serdimko.specs.declared.images.ImageQuery.{ImageQuery}
use Rattle.serdimko.specs.declared.outcome.Outcome.{Outcome}
use Rattle.serdimko.specs.declared.report.Settings.{Settings}

module _ (settings : Settings) (query : ImageQuery) where
  pub only_input : (images : List (List ℕ)) (old new : Out) (said said' : Received) (result : Outcome) → (length images == 0) ≡ true
      → PrintsImage settings query true None old new said said' result → PrintsEach settings query images old new said said' result
  only_input [] old new said said' result none prints = prints
  only_input (image ∷ images) old new said said' result none prints = absurd (grind (arith, nat_tests))

  pub each_image : (images : List (List ℕ)) (old new : Out) (said said' : Received) (result : Outcome) → (length images == 0) ≡ false
      → Each (PrintsOne settings query (length images == 1)) images old new said said' result
      → PrintsEach settings query images old new said said' result
  each_image [] old new said said' result some each = absurd (cc some)
  each_image (image ∷ images) old new said said' result some each = each

-- the fault of the bytes, or that memory ran out; and the rule that they break
pub is_fault_of : (bytes : List ℕ) (fault : ImageFault) (cause : Option FaultCause)
    → (fault ≡ ImageFault.Memory) ⊎ (saved_of_image bytes ≡ Err fault) → cause ≡ cause_of bytes fault → IsFaultOf bytes fault cause
is_fault_of bytes fault cause (inl memory) is = inl memory
is_fault_of bytes fault cause (inr is_fault) is = inr (is_fault, is)
