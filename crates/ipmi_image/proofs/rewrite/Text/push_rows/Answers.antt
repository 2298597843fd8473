use Rattle.std.proofs.Common.{◌+◌, drop, sym, append_assoc, arith}
use Rattle.ipmi_image.specs.Prelude.{row_of}
use Rattle.ipmi_image.proofs.RowsLemmas.{drop-found, found_below}
use Rattle.ipmi_image.proofs.RewriteLemmas.{first_id-chained}
use Rattle.ipmi_image.proofs.rewrite.Text.push_rows.Goals as goal

pub rows-preserved : goal.rows-preserved
rows-preserved c =
    let rows = c.args.rows.now in
    let at = sym c.in-Some.ensures.row in
    let lt = found_below rows c.rows.place (row_of c.in-Some.row) at in
    let left = rw (drop-found rows c.rows.place (row_of c.in-Some.row) at, first_id-chained (drop (c.rows.place + 1) rows)) at c.rows.invariant.1 in
    let next = rw c.id_at.ensures at c.in_ok-push_row.ensures in
    (omega (arith, lt), rw (next, append_assoc c.rows.self.bytes.items) left)
