use Rattle.std.proofs.Common.{◌≡◌, ◌||◌, ◌++◌, drop, map, string_bytes}
use Rattle.ipmi_events.specs.Extensions.{fields_text, said_by}
use Rattle.ipmi_events.specs.Parts.{has_parts, parts_text}
use Rattle.ipmi_events.proofs.discrete.push_fields.Given as goal

-- The text so far, followed by the parts of the remaining fields, is the whole text.
abbrev pub invariant-loop-field : goal.invariant-loop-field
invariant-loop-field l =
    (string_bytes l.text ++ parts_text (l.before || l.said) (fields_text (map said_by (drop l.field-index l.fields)) l.event l.value)
    ≡ string_bytes l.fn.text ++ parts_text l.before (fields_text (map said_by l.fields) l.event l.value))
    × ((l.said || has_parts (fields_text (map said_by (drop l.field-index l.fields)) l.event l.value))
    ≡ has_parts (fields_text (map said_by l.fields) l.event l.value))
