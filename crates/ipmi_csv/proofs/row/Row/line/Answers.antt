use Rattle.std.proofs.Common.{◌∙◌, ◌++◌, ℕ, List, ap, map}
use Rattle.std.proofs.lemmas.Result.{IfOk-weaker}
use Rattle.ipmi_json.specs.declared.object.Label.{Label}
use Rattle.ipmi_csv.specs.Cells.{csv_row}
use Rattle.ipmi_csv.specs.Columns.{columns_of}
use Rattle.ipmi_csv.proofs.RowLemmas.{texts_told}
use Rattle.ipmi_csv.proofs.row.Row.line.Goals as goal

pub returns : goal.returns
returns c = λ ms is.
    let texts = rw (c.as_slice-cells.ensures.value, c.columns_of.ensures) at c.in_ok-texts.ensures in
    let same = texts ∙ ap (λ (texts : List (List ℕ)). texts ++ map (λ (label : Label). label.value.now) c.args.labels.now)
    (texts_told c.args.self.now (columns_of c.args.table) ms is) in
    IfOk-weaker c.csv_row.result _ _
    (λ line h. h ∙ rw c.as_slice.ensures.value (ap (csv_row c.args.separator) same))
    c.csv_row.ensures
