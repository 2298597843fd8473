-- The texts of type/length fields (Platform Management FRU Information Storage Definition v1.0,
-- section 13; IPMI v2.0, section 43.15). These choices are the project's own, as the standards
-- leave them open: the high nibble first, a character for each nibble above Ch, whole characters
-- only, hex for languages other than English, `.` for a character that is not printable, and at
-- most 16 bytes of an ID string.
use Rattle.std.specs.Prelude.{ℕ, ◌+◌, ◌*◌, ◌/◌, ◌%◌, ◌^◌, ◌==◌, ◌&&◌, ◌||◌, min, nat_le, Bool, if◌then◌else◌, List, [], ◌∷◌, length, map, take, slice_index, encode_utf8_all, codes}
use Rattle.std.specs.List.{before_first, range_with_len}
use Rattle.hex.specs.Hex.{encode_lower}
use Rattle.ipmi_text.specs.declared.field_text.TypeCode.{TypeCode}
use Rattle.ipmi_text.specs.declared.field_text.TypeCode.TheVariants.{BcdPlus, Binary, Latin1, SixBit}

-- two lower-case hex digits for each byte
abbrev pub binary_text : List ℕ → List ℕ
binary_text bytes = encode_lower bytes

-- the nibbles of the bytes, high before low
abbrev pub nibbles : List ℕ → List ℕ
nibbles [] = []
nibbles (b ∷ bs) = b / 16 ∷ b % 16 ∷ nibbles bs

-- the characters of BCD plus, indexed by nibble
abbrev pub bcd_plus_character : ℕ → ℕ
bcd_plus_character nibble = slice_index (codes "0123456789 -.:,_") nibble

abbrev pub bcd_plus_text : List ℕ → List ℕ
bcd_plus_text bytes = map bcd_plus_character (nibbles bytes)

-- the bytes as one number, the low byte first
abbrev pub number_of : List ℕ → ℕ
number_of [] = 0
number_of (b ∷ bs) = b + 256 * number_of bs

-- character i is 20h plus digit i of that number in base 64, counted from the lowest digit
abbrev pub six_bit_character : List ℕ → ℕ → ℕ
six_bit_character bytes i = number_of bytes / 64 ^ i % 64 + 0x20

-- as many characters as there are whole groups of six bits in the bytes
unfoldable pub six_bit_text : List ℕ → List ℕ
six_bit_text bytes = map (six_bit_character bytes) (range_with_len 0 (8 * length bytes / 6))

-- the printed character of a byte of 8-bit ASCII and Latin-1: 20h to 7Eh and A0h to FFh print as
-- themselves, all others as `.`
abbrev pub latin1_character : ℕ → ℕ
latin1_character b = if (nat_le 0x20 b && nat_le b 0x7e) || nat_le 0xa0 b then b else 46

-- the characters before the first 00h, in UTF-8
abbrev pub latin1_text : List ℕ → List ℕ
latin1_text bytes = encode_utf8_all (map latin1_character (before_first (λ b. b == 0) bytes))

-- the standard has two codes for English
abbrev pub is_english : ℕ → Bool
is_english language = (language == 0) || (language == 25)

-- the type code of two bits, bits 7:6 of a type/length byte
abbrev pub type_code_of : ℕ → TypeCode
type_code_of bits =
    if bits == 0 then Binary
    else if bits == 1 then BcdPlus
    else if bits == 2 then SixBit
    else Latin1

-- the text of a FRU field by bits 7:6 of its type/length byte
abbrev pub fru_text_of : ℕ → ℕ → List ℕ → List ℕ
fru_text_of code language bytes =
    if code == 1 then bcd_plus_text bytes
    else if code == 2 then six_bit_text bytes
    else if (code == 3) && is_english language then latin1_text bytes
    else binary_text bytes

-- In the type/length byte of a sensor data record's ID string, bits 7:6 are the type code, and bits
-- 4:0 the length in characters (for Unicode, in bytes).
-- The number of bytes for that length: the length itself for Unicode and 8-bit ASCII, four bits per
-- character for BCD plus and six for 6-bit ASCII, rounded up to whole bytes.
abbrev pub bytes_wanted : ℕ → ℕ
bytes_wanted tl =
    if tl / 64 == 1 then (tl % 32 + 1) / 2
    else if tl / 64 == 2 then (6 * (tl % 32) + 7) / 8
    else tl % 32

-- the bytes of the ID string: as many as the length says, but at most 16, and at most all of them
abbrev pub bytes_used : ℕ → List ℕ → List ℕ
bytes_used tl rest = take (min (bytes_wanted tl) 16) rest

-- the text of a sensor data record's ID string, from its type/length byte and the bytes after it
abbrev pub sdr_text_of : ℕ → List ℕ → List ℕ
sdr_text_of tl rest =
    if tl / 64 == 0 then binary_text (bytes_used tl rest)
    else if tl / 64 == 1 then take (tl % 32) (bcd_plus_text (bytes_used tl rest))
    else if tl / 64 == 2 then take (tl % 32) (six_bit_text (bytes_used tl rest))
    else latin1_text (bytes_used tl rest)
