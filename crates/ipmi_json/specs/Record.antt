-- Members that the objects of records and of entries both have.
use Rattle.std.specs.Prelude.{ℕ, List, [], ◌∷◌, Option, None, Some, codes}
use Rattle.json.specs.Json.{Json, null, string}
use Rattle.ipmi_text.specs.FieldText.{binary_text}
use Rattle.ipmi_events.specs.Severity.{severity_word}
use Rattle.ipmi_events.specs.declared.severity.Severity.{Severity}
use Rattle.ipmi_json.specs.Object.{integer, Pair, text_or_null}

-- the name of the object, and the id, the type and the kind
abbrev pub head_members : List ℕ → ℕ → ℕ → List ℕ → List Pair
head_members object id type kind =
    (codes "object", string object)
    ∷ (codes "record_id", integer id)
    ∷ (codes "record_type", integer type)
    ∷ (codes "kind", string kind)
    ∷ []

-- null without a severity
abbrev pub severity_value : Option Severity → Json
severity_value None = null
severity_value (Some severity) = string (severity_word severity)

-- a severity, and what makes it worse than nominal
abbrev pub severity_members : Option Severity → Option (List ℕ) → List Pair
severity_members severity reason =
    (codes "severity", severity_value severity) ∷ (codes "severity_reason", text_or_null reason) ∷ []

abbrev pub raw_members : List ℕ → List Pair
raw_members bytes = (codes "raw", string (binary_text bytes)) ∷ []
