-- So far the labels before this one were added.
use Rattle.std.proofs.Common.{◌≡◌, fold, map, option_map, take}
use Rattle.ipmi_program.specs.Labels.{first_labels, key_value, label_of, with_label}
use Rattle.ipmi_program.proofs.labels.labels_of.Given as goal

abbrev pub invariant-loop-text : goal.invariant-loop-text
invariant-loop-text l =
    map key_value l.labels.items ≡ fold (λ labels text. with_label labels (label_of text))
    (first_labels (option_map (λ name. name.now) l.image)) (take l.text-index l.texts)
