use Rattle.std.proofs.Common.{◌∙◌, ◌++◌, ◌∷◌, [], ap, refl, subst, sym, List, ℕ}
use Rattle.std.specs.Str.{IsUtf8}
use Rattle.ipmi_json.specs.Object.{labels_of, object_in}
use Rattle.ipmi_json.specs.Members.{Top}
use Rattle.ipmi_json.proofs.ObjectLemmas.{object_depth, object_written, read_back, utf8_line}
use Rattle.ipmi_json.proofs.object.finish.Goals as goal

pub returns : goal.returns
returns c = λ ms begun.
    let all = ms ++ labels_of c.args.labels.now in
    let labelled = c.in_ok-write_labels.ensures.more Top ms begun in
    let written = object_written all _ _ labelled c.in_ok-end_object.ensures.ok in
    let before = c.in_ok-end_object.ensures.room.0 ∙ labelled.before in
    let line_is = c.in_ok-push.ensures.items ∙ ap (λ (l : List ℕ). l ++ 10 ∷ []) (c.into_inner-line.ensures.items ∙ rw (before, written) refl) in
    record {
      line_is = line_is;
      is_utf8 = subst IsUtf8 (sym line_is) (utf8_line _ (rw written at c.into_inner-line.ensures.utf8));
      reads_back = read_back (object_in all) (object_depth all labelled.within) (rw written at c.into_inner-line.ensures.reads_back);
    }
