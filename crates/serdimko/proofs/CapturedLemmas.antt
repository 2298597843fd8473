-- What is saved of a capture, by whether the connection was lost.
use Rattle.std.proofs.Common.{◌≡◌, ℕ, IfOk, inl, inr, List, MatchOption, None, Option, option_map, refl, Result, Ok, Err, Some, sym}
use Rattle.ipmi_output.specs.Failure.{line_text}
use Rattle.ipmi_output.specs.Received.{Received, ReceivesText, WritesAll}

module _ (Saves : Type 0) (Says : List ℕ → Type 0) (lost : Option (List ℕ)) where
  pub not_lost : lost ≡ None → Saves → MatchOption lost Saves Says
  not_lost is saves = rw is saves

pub none_lost : {X : Type 0} (f : X → List ℕ) (o : Option X) (lost : Option (List ℕ)) → option_map f o ≡ lost
    → ((x : X) → o ≡ Some x → ⊥) → lost ≡ None
none_lost f None lost is other = sym is
none_lost f (Some x) lost is other = absurd (other x refl)

pub captured : {E : Type 0} {P Q : ℕ → Type 0} (result : Result ℕ E) → IfOk result P
    → ((status : ℕ) → P status → Q status) → IfOk result Q
captured (Ok status) is to = to status is
captured (Err e) is to = tt

-- a line that was written, in whole or in part
pub said : {T E : Type 0} (result : Result T E) (old new : Received) {written text : List ℕ} → written ≡ text
    → WritesAll old new result (line_text written) → ReceivesText old new (line_text text)
said (Ok done) old new is says = inl (rw is at says)
said (Err fault) old new is says = inr (rw is at says)
