-- The text of a mark, as a file keeps it.
use Rattle.std.specs.Prelude.{◌≡◌, ℕ, ◌==◌, ◌&&◌, Bool, ◌<◌, if◌then◌else◌, bytes_eq, codes, Option, None, Some, List, [], ◌∷◌, ◌++◌, length, replicate, slice_index, take, drop}
use Rattle.std.specs.Option.{ForSome, option_and_then, option_map}
use Rattle.std.specs.Result.{result_ok}
use Rattle.byteorder.specs.Endian.{big_bytes, big_number}
use Rattle.hex.specs.Hex.{decode_sized, encode_lower}
use Rattle.ipmi_text.specs.Bytes.{AreBytes}
use Rattle.ipmi_commands.specs.declared.kept.KeptEntry.{KeptEntry}
use Rattle.ipmi_commands.specs.declared.mark.Mark.{Mark}

-- ---- printed

-- 1, the id and the bytes of an entry; as many zeros if there is none
abbrev pub entry_code : Option KeptEntry → List ℕ
entry_code None = replicate 19 0
entry_code (Some entry) = 1 ∷ big_bytes 2 entry.id ++ entry.bytes

-- 1 and an info; as many zeros if there is none
abbrev pub info_code : Option (List ℕ) → List ℕ
info_code None = replicate 15 0
info_code (Some info) = 1 ∷ info

abbrev pub header : List ℕ
header = codes "serdimko-cursor 1 "

-- one line: the header, and both in hex
abbrev pub mark_text : Mark → List ℕ
mark_text mark = header ++ (encode_lower (entry_code mark.entry ++ info_code mark.info) ++ 10 ∷ [])

-- ---- read

abbrev pub entry_of_code : List ℕ → Option (Option KeptEntry)
entry_of_code code =
    if slice_index code 0 == 0 then Some None
    else if slice_index code 0 == 1 then Some (Some (record { id = big_number 2 (slice_index code 1 ∷ slice_index code 2 ∷ []); bytes = drop 3 code }))
    else None

abbrev pub info_of_code : List ℕ → Option (Option (List ℕ))
info_of_code code =
    if slice_index code 0 == 0 then Some None
    else if slice_index code 0 == 1 then Some (Some (drop 1 code))
    else None

-- the mark of both codes
abbrev pub mark_of_code : List ℕ → Option Mark
mark_of_code code = option_and_then
    (λ entry. option_map (λ info. record { entry = entry; info = info }) (info_of_code (drop 19 code))) (entry_of_code (take 19 code))

-- the text begins with the header and ends with a line feed
abbrev pub has_frame : List ℕ → Bool
has_frame text = bytes_eq (take 18 text) header && (slice_index text 86 == 10)

-- the mark of a text, if it is one
abbrev pub mark_of : List ℕ → Option Mark
mark_of text =
    if (length text == 87) && has_frame text
    then option_and_then mark_of_code (result_ok (decode_sized (take 68 (drop 18 text)) 34))
    else None

-- ---- the law

pub record IsEntry (entry : KeptEntry) : Type 0 where
  pub id : entry.id < 65536
  pub whole : length entry.bytes ≡ 16
  pub bytes : AreBytes entry.bytes

pub record IsLogInfo (info : List ℕ) : Type 0 where
  pub whole : length info ≡ 14
  pub bytes : AreBytes info

-- what was printed is read back
abbrev pub MarksAreReadBack : Type 0
MarksAreReadBack = (mark : Mark) → ForSome mark.entry IsEntry → ForSome mark.info IsLogInfo → mark_of (mark_text mark) ≡ Some mark
