use Rattle.std.proofs.Common.{◌++◌, List, ℕ, string_bytes}
use Rattle.ipmi_text.specs.Appended.{Appends}
use Rattle.ipmi_fru.specs.Prelude.{items_left, AreItemTexts}
use Rattle.ipmi_fru.proofs.record_text.push_records.Given as goal

-- The lines so far, followed by those of the remaining items, are all lines.
abbrev pub invariant-records : goal.invariant-records
invariant-records l = (more : List ℕ) → AreItemTexts (items_left l.item-iterator) more → Appends (AreItemTexts (items_left l.fn.records)) (string_bytes l.fn.text) (string_bytes l.text ++ more)
