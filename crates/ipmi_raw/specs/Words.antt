-- Bytes in hex, as the tools read and print them.
use Rattle.std.specs.Prelude.{ℕ, ◌+◌, ◌/◌, ◌%◌, ◌≤◌, ◌==◌, ◌&&◌, nat_lt, if◌then◌else◌, ◌++◌, List, [], ◌∷◌, slice_index, codes, length}
use Rattle.hex.specs.Hex.{lower_digits, upper_digits}
use Rattle.ipmi_text.specs.Bytes.{AreBytes}
use Rattle.ipmi_raw.specs.declared.tool.Tool.{Tool}
use Rattle.ipmi_raw.specs.declared.tool.Tool.TheVariants.{Ipmitool, FreeIpmi}

-- the sixteen digits, in the tool's letter case
abbrev pub digits : Tool → List ℕ
digits Ipmitool = lower_digits
digits FreeIpmi = upper_digits

-- a byte as two digits, the high four bits first
abbrev pub two_digits : Tool → ℕ → List ℕ
two_digits tool byte = slice_index (digits tool) (byte / 16) ∷ slice_index (digits tool) (byte % 16) ∷ []

-- a byte without a leading zero, like `%x` in C
abbrev pub number : Tool → ℕ → List ℕ
number tool byte = if nat_lt byte 16 then slice_index (digits tool) byte ∷ [] else two_digits tool byte

-- bytes as two digits each, with the same text before each
abbrev pub bytes_after : Tool → List ℕ → List ℕ → List ℕ
bytes_after tool before [] = []
bytes_after tool before (byte ∷ bytes) = before ++ two_digits tool byte ++ bytes_after tool before bytes

-- a byte as the tools print it in a reply: a space, and two digits
abbrev pub word : Tool → ℕ → List ℕ
word tool byte = 32 ∷ two_digits tool byte

-- the text before word number i: ipmitool breaks the line after each sixteen words that are not the
-- last
abbrev pub break_before : Tool → ℕ → List ℕ
break_before Ipmitool i = if nat_lt 0 i && (i % 16 == 0) then codes "\n" else []
break_before FreeIpmi i = []

-- the text after the last word; for ipmitool, the line's end, and the end mark, which is the output
-- of `echo .`
abbrev pub ending : Tool → List ℕ
ending Ipmitool = codes "\n. \n"
ending FreeIpmi = codes " \n"

-- the words of these bytes, the first of which is word number i, and the ending
abbrev pub words_from : Tool → ℕ → List ℕ → List ℕ
words_from tool i [] = ending tool
words_from tool i (byte ∷ bytes) = break_before tool i ++ (word tool byte ++ words_from tool (i + 1) bytes)

-- the bytes that a reply can have after its completion code
abbrev pub AreData : List ℕ → Type 0
AreData bytes = (length bytes ≤ 255) × AreBytes bytes
