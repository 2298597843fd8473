use Rattle.std.proofs.Common.{◌≡◌, ◌++◌, map, string_bytes}
use Rattle.ipmi_json.specs.Areas.{extra_texts}
use Rattle.ipmi_json.proofs.areas.extra_texts.Given as goal

-- The texts so far, followed by those of the remaining fields, are all texts.
abbrev pub invariant-fields : goal.invariant-fields
invariant-fields l =
    map (λ text. string_bytes text) l.texts.items ++ extra_texts l.language l.field-iterator
    ≡ extra_texts l.language l.fn.left
