-- Texts split at a separator.
use Rattle.std.specs.Prelude.{ℕ, ◌==◌, List}
use Rattle.std.specs.List.{slice_split}

-- the pieces between the separators; there is one more piece than separators
unfoldable pub pieces : ℕ → List ℕ → List (List ℕ)
pieces separator bytes = slice_split (λ b. b == separator) bytes
