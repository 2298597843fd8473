-- The zero checksum, and the common header (Platform Management FRU Information Storage Definition v1.0, section 8).
use Rattle.std.specs.Prelude.{ℕ, ◌*◌, ◌%◌, ◌==◌, nat_lt, not, Bool, if◌then◌else◌, Option, Some, None, List, length, take, slice_index, sum, codes}
use Rattle.ipmi_fru.specs.declared.header.FruFault.{FruFault}

-- the sum of the bytes is a multiple of 256
abbrev pub is_zero_sum : List ℕ → Bool
is_zero_sum bytes = sum bytes % 256 == 0

-- why bytes are not an inventory. The checks, in this order: the length of a header, the format
-- version (bits 3:0 of the first byte), the checksum of the header
abbrev pub header_fault : List ℕ → Option FruFault
header_fault bytes =
    if nat_lt (length bytes) 8 then Some FruFault.Short
    else if not (slice_index bytes 0 % 16 == 1) then Some FruFault.HeaderVersion
    else if not (is_zero_sum (take 8 bytes)) then Some FruFault.HeaderSum
    else None

-- the name of a fault
abbrev pub fru_fault_name : FruFault → List ℕ
fru_fault_name FruFault.Short = codes "header short"
fru_fault_name FruFault.HeaderVersion = codes "header version"
fru_fault_name FruFault.HeaderSum = codes "header checksum"

-- The header's bytes: version, the offsets of internal use, chassis, board, product and records,
-- pad, checksum. This is the offset in bytes of the area whose offset is at this position in the
-- header: there it is in units of eight bytes, and 0 means no area.
abbrev pub offset_of : ℕ → List ℕ → Option ℕ
offset_of place bytes =
    if slice_index bytes place == 0 then None else Some (8 * slice_index bytes place)
