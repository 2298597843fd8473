-- Numbers that are bytes.
use Rattle.std.specs.Prelude.{ℕ, ◌<◌, List, All}

-- each number is a byte
abbrev pub AreBytes : List ℕ → Type 0
AreBytes bytes = All (λ b. b < 256) bytes
