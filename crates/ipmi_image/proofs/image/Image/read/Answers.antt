use Rattle.std.proofs.Common.{◌∙◌, inl, inr}
use Rattle.std.proofs.lemmas.Result.{err_from_is_err_and}
use Rattle.ipmi_image.proofs.ReadLemmas.{store_of_image-lines}
use Rattle.ipmi_image.proofs.image.Image.read.Goals as goal

pub returns-in_err-read_lines-clause-err : goal.returns-in_err-read_lines-clause-err
returns-in_err-read_lines-clause-err c =
    let out = err_from_is_err_and c.from_residual.result c.from_residual.ensures.1 in
    let is = store_of_image-lines c.args.bytes.now c.in-Some.first.now c.in-Some.rest.now c.in-Some-read_version.version c.in-Some.ensures.cut c.in-Some-read_version.ensures in
    rw (out.1, out.2) (elim c.in_err-read_lines.ensures.err [ inl memory ↦ inl memory | inr fault ↦ inr (is ∙ fault) ])

pub returns-clause-ok : goal.returns-clause-ok
returns-clause-ok c =
    store_of_image-lines c.args.bytes.now c.in-Some.first.now c.in-Some.rest.now
    c.in-Some-read_version.version c.in-Some.ensures.cut c.in-Some-read_version.ensures
    ∙ c.in_ok-read_lines.ensures.ok.1

pub invariant_of-result : goal.invariant_of-result
invariant_of-result c = (
  c.in_ok-read_lines.ensures.ok.0,
  (c.args.bytes.now, store_of_image-lines c.args.bytes.now c.in-Some.first.now c.in-Some.rest.now c.in-Some-read_version.version c.in-Some.ensures.cut c.in-Some-read_version.ensures ∙ c.in_ok-read_lines.ensures.ok.1),
)
