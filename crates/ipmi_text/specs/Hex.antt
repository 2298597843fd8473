-- Bytes and two-byte numbers in hex digits.
use Rattle.std.specs.Prelude.{ℕ, ◌/◌, ◌%◌, List, [], ◌∷◌, ◌++◌, codes, false, true}
use Rattle.std.specs.Fmt.{digit_glyph}

-- a byte as two lower-case hex digits
abbrev pub hex_byte : ℕ → List ℕ
hex_byte n = digit_glyph false (n / 16) ∷ digit_glyph false (n % 16) ∷ []

-- a two-byte number as four lower-case hex digits
abbrev pub hex_word : ℕ → List ℕ
hex_word n = hex_byte (n / 256) ++ hex_byte (n % 256)

-- a byte as two upper-case hex digits
abbrev pub upper_byte : ℕ → List ℕ
upper_byte n = digit_glyph true (n / 16) ∷ digit_glyph true (n % 16) ∷ []

-- a byte and a two-byte number as the standard writes them: upper-case hex digits and an `h`
abbrev pub byte_h : ℕ → List ℕ
byte_h n = upper_byte n ++ codes "h"

abbrev pub word_h : ℕ → List ℕ
word_h n = upper_byte (n / 256) ++ byte_h (n % 256)
