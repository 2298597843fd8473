use Rattle.std.proofs.Common.{◌∙◌, append-nil, sym}
use Rattle.std.proofs.lemmas.List.{drop_all}
use Rattle.ipmi_json.specs.Object.{labels_of}
use Rattle.ipmi_json.proofs.ObjectLemmas.{more_open, within_labels}
use Rattle.ipmi_json.proofs.object.write_labels.Goals as goal

pub returns : goal.returns
returns c =
    let labels = c.args.labels.now in
    let none = drop_all c.loop-label.label-index labels c.loop-label-test.false in
    let tokens = sym (append-nil c.loop-label.out.tokens) ∙ (rw none at c.loop-label.invariant.writes) in
    record { more = λ around ms o. more_open around ms (labels_of labels) _ _ (within_labels labels) o (tokens, c.loop-label.invariant.before) }
