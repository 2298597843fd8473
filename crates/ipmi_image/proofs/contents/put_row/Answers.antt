use Rattle.std.proofs.Common.{rules, ◌≡◌, ◌<◌, ap, sym, subst, ◌∙◌, List, arith, None, Some, inl, inr, is_some}
use Rattle.std.proofs.lemmas.Result.{err_from_is_err_and}
use Rattle.std.proofs.lemmas.List.Elements.{All-from_get_or}
use Rattle.ipmi_image.specs.Below.{IsShelf}
use Rattle.ipmi_image.specs.Prelude.{SavedRow, chained, row_fault}
use Rattle.ipmi_image.proofs.TableLemmas.{has_id_chained}
use Rattle.ipmi_image.proofs.ShelfLemmas.{row_fault-new, row_fault-twice, shelf_with}
use Rattle.ipmi_image.proofs.contents.put_row.Goals as goal

pub returns : goal.returns
returns c =
    let rows = c.args.rows.now in
    let row : SavedRow = record { id = c.args.id; next = c.args.next; bytes = c.args.bytes.now } in
    let added = c.in_ok-push.ensures.put in
    let fine : row_fault c.args.shelf (chained rows) row ≡ None =
    row_fault-new c.args.shelf (chained rows) row (sym c.is_no_id.ensures ∙ c.if-is_no_id.false) (has_id_chained rows c.args.id ∙ ap is_some added.0) ∙ sym c.in_default.ensures in
    record {
      keeps = subst (λ (l : List SavedRow). IsShelf c.args.shelf (chained l)) (sym added.1)
          (shelf_with c.args.shelf rows row fine (omega (arith, c.ranges.id)) (search rules) (All-from_get_or (λ b. b < 256) _ 0 (λ k lt. omega (arith, c.type_inv.bytes k))) c.requires);
      err = tt;
      put = (fine, added.1);
    }

pub returns-in_err-push-clause-put : goal.returns-in_err-push-clause-put
returns-in_err-push-clause-put c =
    let out = err_from_is_err_and c.from_residual.result c.from_residual.ensures.1 in
    let row : SavedRow = record { id = c.args.id; next = c.args.next; bytes = c.args.bytes.now } in
    rw (out.1, out.2) (elim c.in_err-push.ensures.put [
      | inl memory ↦ inl memory
      | inr twice ↦ inr (row_fault-twice c.args.shelf (chained c.args.rows.now) row (sym c.is_no_id.ensures ∙ c.if-is_no_id.false) (has_id_chained c.args.rows.now c.args.id ∙ twice.1) ∙ ap Some (sym twice.0))
    ])
