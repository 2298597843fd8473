-- Numbers on a command line.
use Rattle.std.specs.Prelude.{ℕ, ◌&&◌, ◌==◌, nat_le, nat_lt, List, length, slice_index, take, drop, Option, Some, None, codes, if◌then◌else◌, bytes_eq}
use Rattle.std.specs.Char.{is_digit}
use Rattle.std.specs.List.{list_all}
use Rattle.std.specs.Str.Parse.{digits_value}

-- one or more digits of this radix, with letters of either case, and nothing else
abbrev pub digits_of : ℕ → List ℕ → Option ℕ
digits_of radix text = if nat_lt 0 (length text) && list_all (λ c. is_digit c radix) text
    then Some (digits_value radix text) else None

-- decimal digits without a leading zero
abbrev pub decimal_of : List ℕ → Option ℕ
decimal_of text = if nat_lt 1 (length text) && slice_index text 0 == 48 then None else digits_of 10 text

-- one to four hex digits
abbrev pub hex_of : List ℕ → Option ℕ
hex_of text = if nat_le (length text) 4 then digits_of 16 text else None

-- decimal, or `0x` and hex digits
abbrev pub number_of : List ℕ → Option ℕ
number_of text = if bytes_eq (take 2 text) (codes "0x") then hex_of (drop 2 text) else decimal_of text

-- the number, if there is one from low to high
abbrev pub within : ℕ → ℕ → Option ℕ → Option ℕ
within low high None = None
within low high (Some n) = if nat_le low n && nat_le n high then Some n else None

-- the id of a record, not below this one, in hex digits with or without `0x`
abbrev pub hex_id_of : ℕ → List ℕ → Option ℕ
hex_id_of low text = within low 65534 (hex_of (if bytes_eq (take 2 text) (codes "0x") then drop 2 text else text))
