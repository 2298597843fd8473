-- What the tool of a lost connection said last, on a line.
use Rattle.std.specs.Prelude.{◌≡◌, ◌==◌, ◌&&◌, ℕ, Bool, bytes_eq, codes, filter, IfOk, length, List, [], ◌∷◌, map, None, not, Ok, Option, option_map, Result, Some, String, string_bytes, take}
use Rattle.std.specs.List.{join_by}
use Rattle.std.specs.Str.{trim}
use Rattle.std.specs.Str.Lines.{lines}
use Rattle.std.specs.Str.Lossy.{utf8_lossy}
use Rattle.std.specs.declared.alloc.AllocError.{AllocError}
use Rattle.std.specs.declared.alloc.Global.{Global}

-- a line that is not blank, and is not the mark that ipmitool prints after each reply
abbrev pub says_something : List ℕ → Bool
says_something line = not (length line == 0) && not (bytes_eq line (codes "."))

-- up to three of them
abbrev pub said_lines : List ℕ → List (List ℕ)
said_lines text = take 3 (filter says_something (map trim (lines text)))

abbrev pub on_a_line : List (List ℕ) → List ℕ
on_a_line [] = codes "the tool said nothing"
on_a_line (line ∷ lines) = join_by (λ text. text) (codes "; ") (line ∷ lines)

-- the line for the first 200 bytes of its last output
abbrev pub lost_text : List ℕ → List ℕ
lost_text text = on_a_line (said_lines (utf8_lossy (take 200 text)))

-- that line if the connection was lost; memory for it may run out
abbrev pub IsLastLine : Option (List ℕ) → Result (Option (String Global)) AllocError → Type 0
IsLastLine None line = line ≡ Ok None
IsLastLine (Some text) line = IfOk line (λ said. option_map string_bytes said ≡ Some (lost_text text))
