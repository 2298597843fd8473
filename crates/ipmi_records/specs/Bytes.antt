-- What all records share: bytes (counted from 1, as in the standard's tables), bits (counted from
-- 0) and lines.
use Rattle.std.specs.Prelude.{ℕ, ◌-◌, ◌*◌, ◌/◌, ◌%◌, ◌^◌, ◌==◌, nat_lt, Bool, if◌then◌else◌, ℤ, pos, ◌-ℤ◌, List, [], ◌∷◌, ◌++◌, slice_index, replicate, codes}
use Rattle.std.specs.Fmt.{char_count}
use Rattle.byteorder.specs.Endian.{little_from}

-- byte n
abbrev pub byte_at : ℕ → List ℕ → ℕ
byte_at n bytes = slice_index bytes (n - 1)

-- the number in the `count` bytes that begin with byte n, the low byte first
abbrev pub number_at : ℕ → ℕ → List ℕ → ℕ
number_at n count bytes = little_from (n - 1) count bytes

-- bit k of a byte
abbrev pub has_bit : ℕ → ℕ → Bool
has_bit k byte = byte / 2 ^ k % 2 == 1

-- the number that bits represent in 2's complement; `half` of the numbers are negative
abbrev pub signed : ℕ → ℕ → ℤ
signed half bits = if nat_lt bits half then pos bits else pos bits -ℤ pos (2 * half)

-- a text, padded on the right with spaces to the width in characters; a longer text is not cut
abbrev pub padded_to : ℕ → List ℕ → List ℕ
padded_to width text = text ++ replicate (width - char_count text) 32

-- a line of columns, joined by ` | `
abbrev pub columns_line : List (List ℕ) → List ℕ
columns_line [] = codes "\n"
columns_line (column ∷ []) = column ++ codes "\n"
columns_line (column ∷ next ∷ columns) = column ++ (codes " | " ++ columns_line (next ∷ columns))

-- one line for each label and text
abbrev pub labelled_lines : List (List ℕ × List ℕ) → List ℕ
labelled_lines [] = []
labelled_lines (line ∷ lines) =
    line.0 ++ (codes ": " ++ (line.1 ++ (codes "\n" ++ labelled_lines lines)))
