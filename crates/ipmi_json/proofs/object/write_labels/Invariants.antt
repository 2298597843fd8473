use Rattle.std.proofs.Common.{◌≡◌, ◌++◌, drop}
use Rattle.ipmi_json.specs.Object.{labels_of, tokens_in}
use Rattle.ipmi_json.proofs.object.write_labels.Given as goal

abbrev pub invariant-loop-label : goal.invariant-loop-label
invariant-loop-label l = record {
  writes : l.out.tokens ++ tokens_in (labels_of (drop l.label-index l.labels)) ≡ l.initial.out.tokens ++ tokens_in (labels_of l.labels);
  before : l.out.before ≡ l.initial.out.before;
}
