-- The statements of the laws of reply texts.
use Rattle.std.specs.Prelude.{ℕ, ◌≡◌, ◌+◌, ◌-◌, ◌*◌, ◌/◌, ◌<◌, List, length, slice_index, take, drop}
use Rattle.ipmi_raw.specs.declared.reply.Reply.{Reply}
use Rattle.ipmi_raw.specs.declared.request.Request.{Request}
use Rattle.ipmi_raw.specs.declared.tool.Tool.TheVariants.{Ipmitool}
use Rattle.ipmi_raw.specs.Words.{word, words_from}

-- a text represents at most one reply to a request
abbrev pub OneReply : (Request → Reply → List ℕ → Type 0) → Type 0
OneReply IsText = (request : Request) (one other : Reply) (text : List ℕ) → IsText request one text → IsText request other text
    → one ≡ other

-- the position of byte number i in ipmitool's output: three characters for each byte before it, and
-- a line feed after each sixteen bytes
abbrev pub place_of : ℕ → ℕ
place_of i = 3 * i + i / 16

-- in ipmitool's output of data each byte is at its position
abbrev pub BytesStandAtPlaces : Type 0
BytesStandAtPlaces = (bytes : List ℕ) (i : ℕ) → i < length bytes
    → take 3 (drop (place_of i) (words_from Ipmitool 0 bytes)) ≡ word Ipmitool (slice_index bytes i)

-- the output consists of these words, a line feed after each sixteen words that are not the last,
-- and an ending of four characters
abbrev pub BytesAreAll : Type 0
BytesAreAll = (bytes : List ℕ) → length (words_from Ipmitool 0 bytes) ≡ 3 * length bytes + (length bytes - 1) / 16 + 4
