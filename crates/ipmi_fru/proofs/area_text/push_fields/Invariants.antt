use Rattle.std.proofs.Common.{◌≡◌, ◌++◌, map, string_bytes}
use Rattle.ipmi_fru.specs.Prelude.{field_lines}
use Rattle.ipmi_fru.proofs.area_text.push_fields.Given as goal

-- The lines so far, followed by those of the remaining fields, are all lines.
abbrev pub invariant-fields : goal.invariant-fields
invariant-fields l =
    string_bytes l.text ++ field_lines l.language (map (λ label. label.now) l.left.rest.now) l.labels.extra.now l.field-iterator
    ≡ string_bytes l.fn.text ++ field_lines l.language (map (λ label. label.now) l.labels.fields.now) l.labels.extra.now l.area.fields
