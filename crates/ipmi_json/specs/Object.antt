-- A JSON object as a list of members, and its line: RFC 8259 without spaces, in UTF-8.
use Rattle.std.specs.Prelude.{◌≡◌, ℕ, ◌≤◌, ℤ, Option, Some, None, List, [], ◌∷◌, ◌++◌, codes, decimal, map, string_bytes}
use Rattle.std.specs.Borrow.{Bor}
use Rattle.std.specs.Str.{IsUtf8}
use Rattle.json.specs.Json.{Json, Items, Members, array, boolean, document, item, member, no_items, no_members, null, number, object, string}
use Rattle.json.specs.Print.{print}
use Rattle.json.specs.Token.{Token, key}
use Rattle.json.specs.Tree.{json_tokens, members_depth}
use Rattle.ipmi_text.specs.Decimal.{IsDecimalOf}
use Rattle.ipmi_json.specs.declared.object.Value.{Value}
use Rattle.ipmi_json.specs.declared.object.Label.{Label}

-- ---- arrays and objects

abbrev pub items_in : List Json → Items
items_in [] = no_items
items_in (j ∷ js) = item j (items_in js)

abbrev pub array_in : List Json → Json
array_in js = array (items_in js)

-- a key and its value
abbrev pub Pair : Type 0
Pair = List ℕ × Json

abbrev pub members_in : List Pair → Members
members_in [] = no_members
members_in (m ∷ ms) = member m.0 m.1 (members_in ms)

abbrev pub object_in : List Pair → Json
object_in ms = object (members_in ms)

-- the text of a value, then a line feed, in UTF-8; the grammar of RFC 8259 reads the text before the line feed as that value
pub record IsLineOfJson (j : Json) (text : List ℕ) : Type 0 where
  pub line_is : text ≡ print (json_tokens j) ++ codes "\n"
  pub is_utf8 : IsUtf8 text
  pub reads_back : document (print (json_tokens j)) ≡ Some j

-- ---- values

abbrev pub integer : ℕ → Json
integer n = number (decimal n)

abbrev pub integer_or_null : Option ℕ → Json
integer_or_null None = null
integer_or_null (Some n) = integer n

abbrev pub text_or_null : Option (List ℕ) → Json
text_or_null None = null
text_or_null (Some text) = string text

-- an empty text is null
abbrev pub text_unless_empty : List ℕ → Json
text_unless_empty [] = null
text_unless_empty (c ∷ text) = string (c ∷ text)

-- null if there is no text, or it is empty
abbrev pub text_if_any : Option (List ℕ) → Json
text_if_any None = null
text_if_any (Some text) = text_unless_empty text

abbrev pub texts : List (List ℕ) → Json
texts ts = array_in (map string ts)

-- the exact decimal of a number of units of 10^-16
abbrev pub IsDecimalOrNull : Option ℤ → Json → Type 0
IsDecimalOrNull None j = j ≡ null
IsDecimalOrNull (Some value) j = (text : List ℕ) × (IsDecimalOf value text × (j ≡ number text))

-- ---- members in the code

abbrev pub json_of : Value → Json
json_of Value.Null = null
json_of (Value.Bool b) = boolean b
json_of (Value.Integer n) = integer n
json_of (Value.Number n) = number n.digits.now
json_of (Value.Text text) = string text.now
json_of (Value.Texts list) = texts (map (λ text. string_bytes text) list.now)

-- a member of the code, as seen by contracts
abbrev pub pair_of : Bor (List ℕ) × Value → Pair
pair_of m = (m.0.now, json_of m.1)

abbrev pub pairs_of : List (Bor (List ℕ) × Value) → List Pair
pairs_of ms = map pair_of ms

-- a label as a member
abbrev pub pair_of_label : Label → Pair
pair_of_label label = (label.key.now, string label.value.now)

abbrev pub labels_of : List Label → List Pair
labels_of labels = map pair_of_label labels

-- the line of the object with these members, then the labels
abbrev pub IsLineOf : List Pair → List Label → List ℕ → Type 0
IsLineOf ms labels text = IsLineOfJson (object_in (ms ++ labels_of labels)) text

-- the line of an object with members that satisfy `Are`, then the labels
pub record IsLineOfSome (Are : List Pair → Type 0) (labels : List Label)
    (text : List ℕ) : Type 0 where
  pub ms : List Pair
  pub are : Are ms
  pub is_line : IsLineOf ms labels text

-- ---- the written tokens

-- the tokens of members, without brackets
abbrev pub tokens_in : List Pair → List Token
tokens_in [] = []
tokens_in (m ∷ ms) = (key m.0 ∷ json_tokens m.1) ++ tokens_in ms

-- the nesting of arrays and objects in the values is at most this deep
abbrev pub AreWithin : ℕ → List Pair → Type 0
AreWithin deep ms = members_depth (members_in ms) ≤ deep
