-- The text of a row (RFC 4180). A cell has quotes only where it needs them, and a row ends in a line feed.
use Rattle.std.specs.Prelude.{ℕ, Bool, ◌==◌, ◌||◌, if◌then◌else◌, List, [], ◌∷◌, ◌++◌, codes, flat_map}
use Rattle.std.specs.List.{list_any}
use Rattle.ipmi_command_line.specs.declared.request.Separator.{Separator}

abbrev pub separator_byte : Separator → ℕ
separator_byte Separator.Comma = 44
separator_byte Separator.Semicolon = 59

-- whether a cell with this byte needs quotes: the separator, a quote, CR and LF
abbrev pub needs_quotes : Separator → ℕ → Bool
needs_quotes separator byte =
    (byte == separator_byte separator) || ((byte == 34) || ((byte == 13) || (byte == 10)))

-- a quote inside quotes is doubled
abbrev pub doubled : ℕ → List ℕ
doubled byte = if byte == 34 then 34 ∷ 34 ∷ [] else byte ∷ []

abbrev pub csv_cell : Separator → List ℕ → List ℕ
csv_cell separator text =
    if list_any (needs_quotes separator) text then 34 ∷ (flat_map doubled text ++ 34 ∷ []) else text

-- a separator and a cell
abbrev pub next_cell : Separator → List ℕ → List ℕ
next_cell separator text = separator_byte separator ∷ csv_cell separator text

abbrev pub csv_row : Separator → List (List ℕ) → List ℕ
csv_row separator [] = codes "\n"
csv_row separator (text ∷ texts) =
    csv_cell separator text ++ (flat_map (next_cell separator) texts ++ codes "\n")
