use Rattle.std.proofs.Common.{◌≡◌, [], ◌++◌, map, take}
use Rattle.ipmi_csv.specs.Row.{text_or, told_cell}
use Rattle.ipmi_csv.proofs.row.texts_at.Given as goal

abbrev pub invariant-loop-key : goal.invariant-loop-key
invariant-loop-key l =
    map (λ text. text.now) l.texts.items
    ≡ map (λ key. text_or [] key (map told_cell l.cells)) (map (λ key. key.now) (take l.key-index l.keys))

abbrev pub invariant-labels : goal.invariant-labels
invariant-labels l =
    map (λ text. text.now) l.texts.items
    ≡ map (λ key. text_or [] key (map told_cell l.cells)) (map (λ key. key.now) l.keys)
    ++ map (λ label. label.value.now) (take l.label-index l.labels)
