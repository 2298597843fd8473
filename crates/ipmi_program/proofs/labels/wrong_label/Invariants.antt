-- So far no label was wrong.
use Rattle.std.proofs.Common.{◌≡◌, drop, map, []}
use Rattle.ipmi_program.specs.Labels.{key_value, wrong_label}
use Rattle.ipmi_program.proofs.labels.wrong_label.Given as goal

abbrev pub invariant-loop-text : goal.invariant-loop-text
invariant-loop-text l =
    wrong_label l.is_row [] l.texts ≡ wrong_label l.is_row (map key_value l.labels.items) (drop l.text-index l.texts)
