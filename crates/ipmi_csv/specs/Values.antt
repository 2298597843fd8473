-- The cells of a thing: what its JSON members say.
use Rattle.std.specs.Prelude.{◌≡◌, ℕ, if◌then◌else◌, List, [], ◌∷◌, ◌++◌, bytes_eq, codes, map}
use Rattle.json.specs.Json.{Json, Members, array, boolean, member, no_members, null, number, object, string}
use Rattle.ipmi_json.specs.Object.{Pair}
use Rattle.ipmi_json.specs.declared.object.Label.{Label}
use Rattle.ipmi_csv.specs.Cells.{csv_row}
use Rattle.ipmi_command_line.specs.declared.request.Separator.{Separator}

-- the text of a value in a cell: as JSON has it, a text without its quotes; null, lists and objects have none
abbrev pub text_of : Json → List ℕ
text_of null = []
text_of (boolean b) = if b then codes "true" else codes "false"
text_of (number digits) = digits
text_of (string text) = text
text_of (array items) = []
text_of (object ms) = []

-- ---- members by their keys

-- the key of a member of an area, such as `board.serial_number`
abbrev pub both_keys : List ℕ → List ℕ → List ℕ
both_keys area key = area ++ (codes "." ++ key)

abbrev pub area_members : List ℕ → Members → List Pair
area_members area no_members = []
area_members area (member key j ms) = (both_keys area key, j) ∷ area_members area ms

-- a member, or the members of its object
abbrev pub members_of : List ℕ → Json → List Pair
members_of key (object ms) = area_members key ms
members_of key j = (key, j) ∷ []

abbrev pub flat : List Pair → List Pair
flat [] = []
flat (m ∷ ms) = members_of m.0 m.1 ++ flat ms

-- the last value under a key, or else this one
abbrev pub value_or : Json → List ℕ → List Pair → Json
value_or j key [] = j
value_or j key (m ∷ ms) = value_or (if bytes_eq m.0 key then m.1 else j) key ms

-- the value under a key, or under both keys of a member of an area; null if there is none
abbrev pub value_at : List ℕ → List Pair → Json
value_at key ms = value_or null key (flat ms)

-- ---- rows

-- the row of a thing with these members; the values of the labels come last
abbrev pub IsRowOf : Separator → List Label → List (List ℕ) → List Pair → List ℕ → Type 0
IsRowOf separator labels columns ms text =
    text ≡ csv_row separator (map (λ key. text_of (value_at key ms)) columns ++ map (λ label. label.value.now) labels)

-- the row of a thing with members that satisfy `Are`
pub record IsRowOfSome (separator : Separator) (labels : List Label) (columns : List (List ℕ)) (Are : List Pair → Type 0)
    (text : List ℕ) : Type 0 where
  pub ms : List Pair
  pub are : Are ms
  pub is_row : IsRowOf separator labels columns ms text
