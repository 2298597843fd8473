-- The answers of Get SDR Repository Info and Get SEL Info (IPMI v2.0, sections 33.9 and 31.2),
-- without their completion code: 14 bytes with the same layout; and their text (the project's own).
use Rattle.std.specs.Prelude.{◌≡◌, ℕ, if◌then◌else◌, List, [], ◌∷◌, ◌++◌, codes, decimal}
use Rattle.ipmi_records.specs.Below.{hex_byte, IsUtcTextOf}
use Rattle.ipmi_records.specs.declared.info.Info.{Info}
use Rattle.ipmi_records.specs.Bytes.{labelled_lines, byte_at, has_bit, number_at}

-- Byte 1 is the version, bytes 2 and 3 are the number of records, 4 and 5 the free space in bytes, 6 to 9 the time of the most
-- recent addition, 10 to 13 that of the most recent erase. Byte 14 has the supported operations; its bit 7 means that a record
-- was lost because there was no space.
abbrev pub info_in : List ℕ → Info
info_in bytes = record {
  version = byte_at 1 bytes;
  record_count = number_at 2 2 bytes;
  free_space = number_at 4 2 bytes;
  last_addition = number_at 6 4 bytes;
  last_erase = number_at 10 4 bytes;
  overflow = has_bit 7 (byte_at 14 bytes);
  support = byte_at 14 bytes;
}

-- the seven lines of an info, with the bytes as in `info_in`
pub record IsInfoBlock (bytes text : List ℕ) : Type 0 where
  pub addition : List ℕ
  pub erase : List ℕ
  pub is_addition : IsUtcTextOf (number_at 6 4 bytes) addition
  pub is_erase : IsUtcTextOf (number_at 10 4 bytes) erase
  pub text_is : text ≡ labelled_lines (
      (codes "Version", codes "0x" ++ hex_byte (byte_at 1 bytes))
      ∷ (codes "Records", decimal (number_at 2 2 bytes))
      ∷ (codes "Free Space", decimal (number_at 4 2 bytes))
      ∷ (codes "Last Addition", addition)
      ∷ (codes "Last Erase", erase)
      ∷ (codes "Overflow", if has_bit 7 (byte_at 14 bytes) then codes "yes" else codes "no")
      ∷ (codes "Support", codes "0x" ++ hex_byte (byte_at 14 bytes))
      ∷ [])
