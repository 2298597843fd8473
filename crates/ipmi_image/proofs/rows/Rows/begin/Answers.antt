use Rattle.std.proofs.Common.{◌+◌, ◌&&◌, Bool, drop, ap, sym, ◌∙◌, arith}
use Rattle.ipmi_image.specs.Prelude.{begins_saved, is_same_saved, row_of}
use Rattle.ipmi_image.proofs.RowsLemmas.{begins_at, begins_past, found_below}
use Rattle.ipmi_image.proofs.rows.Rows.begin.Goals as goal

pub rows-preserved : goal.rows-preserved
rows-preserved c =
    let row = row_of c.in-Some.row in
    let here = sym c.in-Some.ensures.row in
    let lt = found_below c.args.self.now c.rows.place row here in
    let first = ap (is_same_saved row) (sym c.get-in-Some.ensures.row) ∙ sym c.is_same.ensures ∙ c.if-not-is_same.false in
    let rest = begins_saved (drop (c.rows.place + 1) c.args.self.now) (drop (c.rows.place + 1) c.args.later.now) in
    let step = begins_at c.args.self.now c.args.later.now c.rows.place row here ∙ ap (λ (b : Bool). b && rest) first in
    (omega (arith, lt), sym step ∙ c.rows.invariant.1)

pub returns-then-not-is_same : goal.returns-then-not-is_same
returns-then-not-is_same c =
    let row = row_of c.in-Some.row in
    let first = ap (is_same_saved row) (sym c.get-in-Some.ensures.row) ∙ sym c.is_same.ensures ∙ c.if-not-is_same.true in
    let rest = begins_saved (drop (c.rows.place + 1) c.args.self.now) (drop (c.rows.place + 1) c.args.later.now) in
    let step = begins_at c.args.self.now c.args.later.now c.rows.place row (sym c.in-Some.ensures.row) ∙ ap (λ (b : Bool). b && rest) first in
    sym step ∙ c.rows.invariant.1

pub rows-smaller : goal.rows-smaller
rows-smaller c =
    let lt = found_below c.args.self.now c.rows.place (row_of c.in-Some.row) (sym c.in-Some.ensures.row) in omega (arith, lt)

pub returns : goal.returns
returns c = sym (begins_past c.args.self.now c.args.later.now c.rows.place (sym c.in_default.ensures.row)) ∙ c.rows.invariant.1
