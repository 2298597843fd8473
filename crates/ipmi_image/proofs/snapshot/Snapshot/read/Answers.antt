use Rattle.std.proofs.Common.{◌≡◌, true, length, refl, sym, ap, ◌∙◌, inl, inr}
use Rattle.std.proofs.lemmas.Result.{err_from_is_err_and}
use Rattle.ipmi_image.specs.Prelude.{is_third, later, saved_after, saved_with}
use Rattle.ipmi_image.proofs.SnapshotLemmas.{saved_of_image-third}
use Rattle.ipmi_image.proofs.snapshot.Snapshot.read.Goals as goal

pub returns-in_err-rest-clause-err : goal.returns-in_err-rest-clause-err
returns-in_err-rest-clause-err c =
    let out = err_from_is_err_and c.from_residual.result c.from_residual.ensures.1 in
    let third : is_third c.in-Some.first.now ≡ true = sym c.is_third.ensures ∙ c.if-is_third.true in
    let is = saved_of_image-third c.args.bytes.now c.in-Some.first.now c.in-Some.text.now c.in-Some.ensures.cut third in
    rw (out.1, out.2) (elim c.in_err-rest.ensures.err [ inl memory ↦ inl memory | inr fault ↦ inr (is ∙ ap saved_after fault) ])

pub returns-in-Ok-clause-ok : goal.returns-in-Ok-clause-ok
returns-in-Ok-clause-ok c =
    let third : is_third c.in-Some.first.now ≡ true = sym c.is_third.ensures ∙ c.if-is_third.true in
    saved_of_image-third c.args.bytes.now c.in-Some.first.now c.in-Some.text.now c.in-Some.ensures.cut third
    ∙ ap saved_after c.in_ok-rest.ensures.ok ∙ ap (saved_with c.read_lacks.new.lacks.items) c.in-Ok.ensures.ok

pub returns-in-Err-clause-err : goal.returns-in-Err-clause-err
returns-in-Err-clause-err c =
    let third : is_third c.in-Some.first.now ≡ true = sym c.is_third.ensures ∙ c.if-is_third.true in
    let is = saved_of_image-third c.args.bytes.now c.in-Some.first.now c.in-Some.text.now c.in-Some.ensures.cut third in
    let lines = c.as_slice.ensures.value in
    elim c.in-Err.ensures.err [
      | inl memory ↦ inl (c.later.ensures ∙ rw memory refl)
      | inr fault ↦ inr (is ∙ ap saved_after c.in_ok-rest.ensures.ok ∙ ap (saved_with c.read_lacks.new.lacks.items) fault ∙ rw (c.later.ensures, lines) refl)
    ]
