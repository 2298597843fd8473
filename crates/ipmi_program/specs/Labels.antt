-- The labels of objects and rows: the name of an image that is one of several, and those of `--label`.
use Rattle.std.specs.Prelude.{ℕ, ◌==◌, ◌||◌, ◌&&◌, Bool, ◌∷◌, [], ◌++◌, List, Option, Some, None, codes, fold, length, nat_lt, if◌then◌else◌, bytes_eq}
use Rattle.std.specs.List.{after_first, before_first, list_any, position_or_len}
use Rattle.ipmi_json.specs.Keys.{is_object_key}
use Rattle.ipmi_json.specs.declared.object.Label.{Label}
use Rattle.ipmi_output.specs.Failure.{escaped_name}

pub record KeyValue : Type 0 where
  pub key : List ℕ
  pub value : List ℕ

abbrev pub key_value : Label → KeyValue
key_value label = record { key = label.key.now; value = label.value.now }

-- what stands before the first `=`
abbrev pub key_in : List ℕ → List ℕ
key_in text = before_first (λ byte. byte == 61) text

-- KEY=VALUE; None: it has no `=`, or nothing before it
abbrev pub label_of : List ℕ → Option KeyValue
label_of text =
    if nat_lt (position_or_len (λ byte. byte == 61) text) (length text)
    then (if length (key_in text) == 0 then None
    else Some (record { key = key_in text; value = after_first (λ byte. byte == 61) text })) else None

abbrev pub with_label : List KeyValue → Option KeyValue → List KeyValue
with_label labels None = labels
with_label labels (Some label) = labels ++ label ∷ []

-- after the image's name
abbrev pub first_labels : Option (List ℕ) → List KeyValue
first_labels None = []
first_labels (Some name) = record { key = codes "image"; value = name } ∷ []

abbrev pub labels_of : Option (List ℕ) → List (List ℕ) → List KeyValue
labels_of image texts = fold (λ labels text. with_label labels (label_of text)) (first_labels image) texts

-- ---- what is wrong with a label, given those before it

-- the key of the image's name, or one of an object
abbrev pub is_taken : List ℕ → Bool
is_taken key = bytes_eq key (codes "image") || is_object_key key

-- a column of an area has a point in its name
abbrev pub has_point : List ℕ → Bool
has_point key = list_any (λ byte. byte == 46) key

-- a key that is taken, or in a row one that a column may have, or that of an earlier label
abbrev pub key_fault : Bool → List ℕ → List KeyValue → Option (List ℕ)
key_fault is_row key before =
    if is_taken key then Some (codes "': the output has a key of its own with this name")
    else (if is_row && has_point key then Some (codes "': with --csv a key has no point")
    else (if list_any (λ label. bytes_eq label.key key) before then Some (codes "': an earlier label has this key")
    else None))

abbrev pub fault_of_label : Bool → Option KeyValue → List KeyValue → Option (List ℕ)
fault_of_label is_row None before = Some (codes "' is not KEY=VALUE")
fault_of_label is_row (Some label) before = key_fault is_row label.key before

-- the message about the first that has a fault
abbrev pub wrong_label : Bool → List KeyValue → List (List ℕ) → Option (List ℕ)
wrong_label is_row before [] = None
wrong_label is_row before (text ∷ texts) = elim (fault_of_label is_row (label_of text) before) [
  | Some fault ↦ Some (codes "--label '" ++ (escaped_name text ++ fault))
  | None ↦ wrong_label is_row (with_label before (label_of text)) texts
]
