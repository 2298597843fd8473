use Rattle.std.proofs.Common.{◌≡◌, ◌++◌, map, take}
use Rattle.ipmi_csv.proofs.format.push_keys.Given as goal

abbrev pub invariant-labels : goal.invariant-labels
invariant-labels l =
    map (λ key. key.now) l.keys.items
    ≡ map (λ key. key.now) l.fn.keys.items ++ map (λ label. label.key.now) (take l.label-index l.labels)
