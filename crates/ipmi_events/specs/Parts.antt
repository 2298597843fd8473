-- Parts of a text, joined by `, `.
use Rattle.std.specs.Prelude.{ℕ, Bool, true, false, if◌then◌else◌, List, [], ◌∷◌, ◌++◌, codes}

abbrev pub comma : Bool → List ℕ
comma before = if before then codes ", " else []

-- the parts, with `, ` before each but the first, and before the first too if there are parts
-- before it
abbrev pub parts_text : Bool → List (List ℕ) → List ℕ
parts_text before [] = []
parts_text before (part ∷ parts) = comma before ++ (part ++ parts_text true parts)

abbrev pub has_parts : List (List ℕ) → Bool
has_parts [] = false
has_parts (part ∷ parts) = true
