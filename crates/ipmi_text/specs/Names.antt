-- Names from tables, and what is printed for a code without a name.
use Rattle.std.specs.Prelude.{ℕ, ◌-◌, ◌==◌, List, ◌++◌, codes, Option, None, slice_get, unwrap_or, if◌then◌else◌}
use Rattle.ipmi_text.specs.Hex.{hex_byte}

-- the name of a code, from a table that begins with code 1
abbrev pub name_from_one : List (List ℕ) → ℕ → Option (List ℕ)
name_from_one table code = if code == 0 then None else slice_get table (code - 1)

-- the name, or else the kind and the code, such as `unit 0x19`
abbrev pub name_or_code : Option (List ℕ) → List ℕ → ℕ → List ℕ
name_or_code name kind code = unwrap_or name (kind ++ (codes " 0x" ++ hex_byte code))
