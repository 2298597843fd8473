-- Texts one after another.
use Rattle.std.specs.Prelude.{◌≡◌, ℕ, List, [], ◌∷◌, ◌++◌}

-- a text of one, and one of those that follow
pub record AreJoined (IsFirst AreRest : List ℕ → Type 0) (text : List ℕ) : Type 0 where
  pub first : List ℕ
  pub rest : List ℕ
  pub is_first : IsFirst first
  pub are_rest : AreRest rest
  pub text_is : text ≡ first ++ rest

-- the texts of all these, in their order
abbrev pub AreTexts : {A : Type 0} → (A → List ℕ → Type 0) → List A → List ℕ → Type 0
AreTexts IsText [] text = text ≡ []
AreTexts IsText (x ∷ xs) text = AreJoined (λ first. IsText x first) (λ rest. AreTexts IsText xs rest) text
