-- The header of a sensor data record (IPMI v2.0, section 43): five bytes. The last is the number of
-- bytes that follow.
use Rattle.std.specs.Prelude.{ℕ, ◌+◌, List, slice_index}

-- the length of the record in bytes, including its header
abbrev pub sdr_len : List ℕ → ℕ
sdr_len bytes = 5 + slice_index bytes 4
