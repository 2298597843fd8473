-- The fields of an area: their type/length bytes and their data (Platform Management FRU Information Storage Definition
-- v1.0, section 13).
use Rattle.std.specs.Prelude.{◌≡◌, ◌≢◌, ℕ, zero, suc, ◌<◌, ◌/◌, ◌%◌, ◌==◌, nat_lt, if◌then◌else◌, Option, Some, None, option_map, List, [], ◌∷◌, ◌++◌, length, take, drop}
use Rattle.ipmi_fru.specs.declared.field.Field.{Field}
use Rattle.ipmi_fru.specs.declared.field.Beginning.{Beginning}

-- a field: bits 7:6 of its type/length byte, and its data
pub record AreaField : Type 0 where
  pub code : ℕ
  pub bytes : List ℕ

-- bytes that begin with a field: a type/length byte other than C1h, and as many data bytes as its
-- bits 5:0 say; then the rest
pub record BeginsWithField (bytes : List ℕ) (field : AreaField) (rest : List ℕ) : Type 0 where
  pub type_length : ℕ
  pub is_no_end : type_length ≢ 0xc1
  pub code_is : field.code ≡ type_length / 64
  pub length_is : length field.bytes ≡ type_length % 64
  pub bytes_are : bytes ≡ type_length ∷ (field.bytes ++ rest)

-- no bytes are left, or the next byte is C1h; that C1h may be missing is the project's own choice
abbrev pub EndsFields : List ℕ → Type 0
EndsFields [] = Unit {0}
EndsFields (byte ∷ bytes) = byte ≡ 0xc1

-- the bytes encode these fields, in order
abbrev pub Spells : List ℕ → List AreaField → Type 0
Spells bytes [] = EndsFields bytes
Spells bytes (field ∷ fields) =
    (rest : List ℕ) × (BeginsWithField bytes field rest × Spells rest fields)

-- the fields that the bytes encode, at most n; None if they encode no list
abbrev pub fields_from : ℕ → List ℕ → Option (List AreaField)
fields_from n [] = Some []
fields_from zero (byte ∷ bytes) = None
fields_from (suc n) (byte ∷ bytes) =
    if byte == 0xc1 then Some []
    else if nat_lt (length bytes) (byte % 64) then None
    else option_map (λ fields. (record { code = byte / 64; bytes = take (byte % 64) bytes }) ∷ fields)
    (fields_from n (drop (byte % 64) bytes))

-- the fields that the bytes encode: there are at most as many as bytes
abbrev pub fields_in : List ℕ → Option (List AreaField)
fields_in bytes = fields_from (length bytes) bytes

-- ---- computing the fields

-- a field as contracts see it
abbrev pub field_of : Field → AreaField
field_of f = record { code = f.code; bytes = f.bytes.now }

-- the first item in the bytes: no field, a field that runs past their end, or a field before the
-- fields of the rest
abbrev pub Begins : List ℕ → Beginning → Type 0
Begins bytes Beginning.End = fields_in bytes ≡ Some []
Begins bytes Beginning.PastEnd = fields_in bytes ≡ None
Begins bytes (Beginning.Field f rest) =
    (fields_in bytes ≡ option_map (λ fields. field_of f ∷ fields) (fields_in rest.now))
    × (length rest.now < length bytes)
