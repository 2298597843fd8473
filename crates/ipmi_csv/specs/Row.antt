-- What a row keeps of the members that were told so far.
use Rattle.std.specs.Prelude.{◌≡◌, ℕ, zero, suc, if◌then◌else◌, Option, None, Some, List, [], ◌∷◌, ◌++◌, bytes_eq, map, option_map, string_bytes}
use Rattle.ipmi_json.specs.Members.{Nesting, Item, Listing, Top, Under}
use Rattle.ipmi_json.specs.Object.{Pair}
use Rattle.ipmi_csv.specs.Values.{both_keys, members_of, text_of}
use Rattle.ipmi_csv.specs.declared.row.Cell.{Cell}
use Rattle.ipmi_csv.specs.declared.row.Name.{Name}
use Rattle.ipmi_csv.specs.declared.row.Row.{Row}

-- ---- cells

-- a key and the text of its value
abbrev pub Told : Type 0
Told = List ℕ × List ℕ

abbrev pub cell_of : Pair → Told
cell_of m = (m.0, text_of m.1)

-- the last text under a key, or else this one
abbrev pub text_or : List ℕ → List ℕ → List Told → List ℕ
text_or text key [] = text
text_or text key (cell ∷ cells) = text_or (if bytes_eq cell.0 key then cell.1 else text) key cells

-- the key of a member where this area was begun, if one was
abbrev pub key_in : Option (List ℕ) → List ℕ → List ℕ
key_in None key = key
key_in (Some area) key = both_keys area key

-- the cells of a member
abbrev pub cells_in : Option (List ℕ) → Pair → List Told
cells_in None m = map cell_of (members_of m.0 m.1)
cells_in (Some area) m = (both_keys area m.0, text_of m.1) ∷ []

-- ---- what was told

-- the area whose members are told, if one was begun; how many objects and lists that are passed over were begun; and the cells
pub record Seen : Type 0 where
  pub area : Option (List ℕ)
  pub passed : ℕ
  pub cells : List Told

-- with another cell
abbrev pub add : Seen → Told → Seen
add seen cell = record seen { cells = seen.cells ++ cell ∷ [] }

-- with another member; one of what is passed over is left out
abbrev pub put_by : ℕ → Seen → Pair → Seen
put_by zero seen m = record seen { cells = seen.cells ++ cells_in seen.area m }
put_by (suc n) seen m = seen

abbrev pub put : Seen → Pair → Seen
put seen m = put_by seen.passed seen m

abbrev pub tell : Seen → List Pair → Seen
tell seen [] = seen
tell seen (m ∷ ms) = tell (put seen m) ms

-- the beginning of an object of a list, which is passed over
abbrev pub deeper : Seen → Seen
deeper seen = record seen { passed = suc seen.passed }

-- the beginning of an object or a list that is passed over; its own key has an empty cell
abbrev pub pass_by : ℕ → Seen → List ℕ → Seen
pass_by zero seen key = deeper (add seen (key_in seen.area key, []))
pass_by (suc n) seen key = deeper seen

abbrev pub pass : Seen → List ℕ → Seen
pass seen key = pass_by seen.passed seen key

-- the beginning of an object: an area, if it is no object in an object or a list
abbrev pub begin_by : ℕ → Option (List ℕ) → Seen → List ℕ → Seen
begin_by zero None seen key = record seen { area = Some key }
begin_by zero (Some area) seen key = pass seen key
begin_by (suc n) area seen key = pass seen key

abbrev pub begin : Seen → List ℕ → Seen
begin seen key = begin_by seen.passed seen.area seen key

-- the end of an object or a list
abbrev pub end_by : ℕ → Seen → Seen
end_by zero seen = record seen { area = None }
end_by (suc n) seen = record seen { passed = n }

abbrev pub end : Seen → Seen
end seen = end_by seen.passed seen

-- ---- rows

abbrev pub nothing : Seen
nothing = record { area = None; passed = 0; cells = [] }

-- what was told before the members that are told here
abbrev pub before : Nesting → Seen
before Top = nothing
before (Under around ms key) = begin (tell (before around) ms) key
before (Listing around ms key items) = pass (tell (before around) ms) key
before (Item around ms key items) = deeper (pass (tell (before around) ms) key)

abbrev pub name_of : Name → List ℕ
name_of (Name.Own key) = key.now
name_of (Name.Both keys) = string_bytes keys

abbrev pub told_cell : Cell → Told
told_cell cell = (name_of cell.name, string_bytes cell.text)

abbrev pub seen_in : Row → Seen
seen_in row = record {
  area = option_map (λ area. area.now) row.area;
  passed = row.passed;
  cells = map told_cell row.cells.items;
}

-- a row is a listener
abbrev pub told : Row → Nesting → List Pair → Type 0
told row around ms = seen_in row ≡ tell (before around) ms
