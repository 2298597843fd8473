-- A text appended to another.
use Rattle.std.specs.Prelude.{◌≡◌, ℕ, List, ◌++◌}

-- new is old followed by a text that satisfies `IsText`
pub record Appends (IsText : List ℕ → Type 0) (old new : List ℕ) : Type 0 where
  pub part : List ℕ
  pub is_text : IsText part
  pub text_is : new ≡ old ++ part
