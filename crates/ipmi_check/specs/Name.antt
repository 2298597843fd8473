-- How a check names a sensor.
use Rattle.std.specs.Prelude.{ℕ, List, [], ◌∷◌, ◌++◌, codes}
use Rattle.ipmi_text.specs.Hex.{hex_word}

-- the name, or the id of a record without a name
abbrev pub name_or_id : ℕ → List ℕ → List ℕ
name_or_id id [] = codes "record " ++ hex_word id
name_or_id id (first ∷ rest) = first ∷ rest
