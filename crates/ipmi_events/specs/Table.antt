-- Words from tables.
use Rattle.std.specs.Prelude.{ℕ, ◌-◌, ◌==◌, List, [], ◌∷◌, Option, Some, None, slice_get, unwrap_or, if◌then◌else◌}

-- the table entry of a reserved code
abbrev pub reserved : List ℕ
reserved = []

-- None for a reserved code
abbrev pub unless_reserved : Option (List ℕ) → Option (List ℕ)
unless_reserved None = None
unless_reserved (Some []) = None
unless_reserved (Some (c ∷ words)) = Some (c ∷ words)

-- the words of a code, from a table that begins with code 0
abbrev pub words_at : List (List ℕ) → ℕ → Option (List ℕ)
words_at table code = unless_reserved (slice_get table code)

-- the table of a code, from tables that begin with code 1
abbrev pub table_from_one : List (List (List ℕ)) → ℕ → List (List ℕ)
table_from_one tables code =
    if code == 0 then [] else unwrap_or (slice_get tables (code - 1)) []
