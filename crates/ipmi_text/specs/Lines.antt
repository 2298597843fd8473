-- Lines that other crates print.
use Rattle.std.specs.Prelude.{List, ℕ, ◌++◌, codes}

-- a line of a label and a text
abbrev pub labelled : List ℕ → List ℕ → List ℕ
labelled label text = label ++ (codes ": " ++ (text ++ codes "\n"))
