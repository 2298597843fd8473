-- Which rule a faulty image breaks.
use Rattle.std.specs.Prelude.{◌≡◌, ℕ, ◌-◌, ◌==◌, ◌&&◌, ◌||◌, nat_eq, nat_lt, Bool, true, if◌then◌else◌, Option, Some, None, Result, Ok, Err, IfErr, is_some, List, [], ◌∷◌, codes, length, option_map, slice_get, slice_index, unwrap_or}
use Rattle.std.specs.List.{ends_with, list_any, starts_with}
use Rattle.ipmi_image.specs.Below.{Sdr, Sel}
use Rattle.ipmi_image.specs.declared.cause.Beginning.{Beginning}
use Rattle.ipmi_image.specs.declared.cause.FaultCause.{FaultCause}
use Rattle.ipmi_image.specs.declared.cause.LineCause.{LineCause}
use Rattle.ipmi_image.specs.declared.cause.RuleCause.{RuleCause}
use Rattle.ipmi_image.specs.declared.image_line.LineFault.{LineFault}
use Rattle.ipmi_image.specs.declared.image.ImageFault.{ImageFault}
use Rattle.ipmi_image.specs.declared.version.Version.{Version}
use Rattle.ipmi_image.specs.Text.{pieces}
use Rattle.ipmi_image.specs.Line.{Line, a_row, an_inventory, a_reading, an_info, the_end, line_of}
use Rattle.ipmi_image.specs.Image.{store_of_image, version_in}
use Rattle.ipmi_image.specs.Snapshot.{is_lack_line, is_third}

-- ---- no image at all

-- files of gzip, xz, zstd, bzip2, zip, lz4 and compress begin so
abbrev pub is_compressed : List ℕ → Bool
is_compressed bytes =
    starts_with nat_eq bytes (0x1F ∷ 0x8B ∷ []) || starts_with nat_eq bytes (0xFD ∷ 0x37 ∷ 0x7A ∷ 0x58 ∷ 0x5A ∷ 0 ∷ [])
    || starts_with nat_eq bytes (0x28 ∷ 0xB5 ∷ 0x2F ∷ 0xFD ∷ []) || starts_with nat_eq bytes (codes "BZh")
    || starts_with nat_eq bytes (0x50 ∷ 0x4B ∷ 3 ∷ 4 ∷ []) || starts_with nat_eq bytes (4 ∷ 0x22 ∷ 0x4D ∷ 0x18 ∷ [])
    || starts_with nat_eq bytes (0x1F ∷ 0x9D ∷ [])

-- UTF-16 and UTF-32 begin so
abbrev pub is_wide : List ℕ → Bool
is_wide bytes =
    starts_with nat_eq bytes (0xFF ∷ 0xFE ∷ []) || starts_with nat_eq bytes (0xFE ∷ 0xFF ∷ [])
    || starts_with nat_eq bytes (0 ∷ 0 ∷ 0xFE ∷ 0xFF ∷ [])

-- a record with an id below 0100h, followed by a version of sensor data records, or by the type of an event
abbrev pub is_raw_record : List ℕ → Bool
is_raw_record bytes =
    nat_lt 2 (length bytes)
    && (slice_index bytes 1 == 0) && ((slice_index bytes 2 == 0x51) || (slice_index bytes 2 == 2))

-- what bytes are that do not begin as an image
abbrev pub beginning_cause : List ℕ → Beginning
beginning_cause bytes =
    if length bytes == 0 then Beginning.Empty
    else (if is_compressed bytes then Beginning.Compressed
    else (if starts_with nat_eq bytes (0xEF ∷ 0xBB ∷ 0xBF ∷ []) then Beginning.ByteOrderMark
    else (if is_wide bytes then Beginning.WideText
    else (if starts_with nat_eq bytes (codes "ipmi-image 1\r\n") || starts_with nat_eq bytes (codes "ipmi-image 2\r\n")
    then Beginning.CrLfText
    else (if starts_with nat_eq bytes (codes "ipmi-image 1\r") || starts_with nat_eq bytes (codes "ipmi-image 2\r")
    then Beginning.CrText
    else (if is_raw_record bytes then Beginning.RawRecords
    else (if starts_with nat_eq bytes (1 ∷ []) then Beginning.RawInventory
    else Beginning.Header)))))))

-- ---- no end

abbrev pub ending_cause : List ℕ → RuleCause
ending_cause bytes =
    if ends_with nat_eq bytes (codes "\nend") then RuleCause.CutEnd
    else (if ends_with nat_eq bytes (codes "\n") then RuleCause.NoEnd
    else RuleCause.CutLine)

-- ---- a line

abbrev pub is_empty : List ℕ → Bool
is_empty field = length field == 0

-- a fault in the white space of a line, which has that of an invalid line or of hex
abbrev pub space_cause : List ℕ → Option LineCause
space_cause line =
    if ends_with nat_eq line (13 ∷ []) then Some LineCause.CrLf
    else (if list_any (λ byte. byte == 9) line then Some LineCause.Tab
    else (if is_empty line then Some LineCause.EmptyLine
    else (if starts_with nat_eq line (32 ∷ []) then Some LineCause.LeadingSpace
    else None)))

-- an empty field tells more than a wrong number or length of fields
abbrev pub field_cause : List ℕ → LineCause → LineCause
field_cause line LineCause.FirstWord = LineCause.FirstWord
field_cause line LineCause.EndFields = LineCause.EndFields
field_cause line cause = if list_any is_empty (pieces 32 line) then LineCause.EmptyField else cause

-- lines that can be read, by their kind
abbrev pub id_cause : Line → Option RuleCause
id_cause (a_row shelf row) = Some (if row.id == 0 then RuleCause.ZeroId else RuleCause.LastId)
id_cause (an_inventory id bytes) = Some RuleCause.DeviceId
id_cause (a_reading lun number bytes) = Some RuleCause.Lun
id_cause (an_info shelf bytes) = None
id_cause the_end = None

abbrev pub twice_cause : Line → Option RuleCause
twice_cause (a_row shelf row) = Some RuleCause.RecordTwice
twice_cause (an_inventory id bytes) = None
twice_cause (a_reading lun number bytes) = Some RuleCause.ReadingTwice
twice_cause (an_info shelf bytes) = Some RuleCause.InfoTwice
twice_cause the_end = None

abbrev pub len_cause : Line → Option RuleCause
len_cause (a_row Sdr row) = Some RuleCause.SdrLen
len_cause (a_row Sel row) = Some RuleCause.SelLen
len_cause (an_inventory id bytes) = None
len_cause (a_reading lun number bytes) = Some RuleCause.ReadingLen
len_cause (an_info shelf bytes) = Some RuleCause.InfoLen
len_cause the_end = None

-- a line that can be read has no cause of its own for being invalid
abbrev pub rule_cause : ImageFault → Line → Option RuleCause
rule_cause (ImageFault.Id n) line = id_cause line
rule_cause (ImageFault.Twice n) line = twice_cause line
rule_cause (ImageFault.Length n) line = len_cause line
rule_cause fault line = None

-- what the reader of a line says of it, if the image has this fault there
abbrev pub read_cause : ImageFault → List ℕ → Result Line LineFault → Option FaultCause
read_cause fault text (Ok line) = option_map (λ cause. FaultCause.Rule cause) (rule_cause fault line)
read_cause fault text (Err (LineFault.Line cause)) = Some (FaultCause.Line (field_cause text cause))
read_cause fault text (Err (LineFault.Hex cause)) = Some (FaultCause.Line cause)
read_cause fault text (Err e) = None

abbrev pub line_cause : Version → ImageFault → List ℕ → Option FaultCause
line_cause version fault text =
    elim (space_cause text) [
      | Some cause ↦ Some (FaultCause.Line cause)
      | None ↦ read_cause fault text (line_of version text)
    ]

-- a line, counted from 1; empty if there are not so many
abbrev pub line_at : List ℕ → ℕ → List ℕ
line_at bytes n = unwrap_or (slice_get (pieces 10 bytes) (n - 1)) []

-- in version 3, of a line `lacks`, or else of a line as in version 2
abbrev pub third_cause : ImageFault → List ℕ → Option FaultCause
third_cause fault text =
    if is_lack_line text then Some (FaultCause.Line (unwrap_or (space_cause text) LineCause.Lack))
    else line_cause Version.Two fault text

abbrev pub numbered_cause : List ℕ → ImageFault → ℕ → Option FaultCause
numbered_cause bytes fault n =
    elim (version_in (line_at bytes 1)) [
      | Some version ↦ line_cause version fault (line_at bytes n)
      | None ↦ if is_third (line_at bytes 1) then third_cause fault (line_at bytes n) else None
    ]

-- ---- the image

-- which rule bytes with this fault break; None if they do not have it
abbrev pub cause_of : List ℕ → ImageFault → Option FaultCause
cause_of bytes ImageFault.Memory = None
cause_of bytes ImageFault.Header = Some (FaultCause.Beginning (beginning_cause bytes))
cause_of bytes (ImageFault.Line n) = numbered_cause bytes (ImageFault.Line n) n
cause_of bytes (ImageFault.Hex n) = numbered_cause bytes (ImageFault.Hex n) n
cause_of bytes (ImageFault.Id n) = numbered_cause bytes (ImageFault.Id n) n
cause_of bytes (ImageFault.Twice n) = numbered_cause bytes (ImageFault.Twice n) n
cause_of bytes (ImageFault.Length n) = numbered_cause bytes (ImageFault.Length n) n
cause_of bytes (ImageFault.FirstId n) = Some (FaultCause.Rule RuleCause.FirstId)
cause_of bytes ImageFault.NoEnd = Some (FaultCause.Rule (ending_cause bytes))
cause_of bytes (ImageFault.AfterEnd n) = Some (FaultCause.Rule RuleCause.AfterEnd)
cause_of bytes (ImageFault.TooMany n) = Some (FaultCause.Rule RuleCause.TooManyBytes)

-- ---- a law

-- each fault of an image has a cause
abbrev pub EachFaultHasACause : Type 0
EachFaultHasACause =
    (bytes : List ℕ) → IfErr (store_of_image bytes) (λ fault. is_some (cause_of bytes fault) ≡ true)
