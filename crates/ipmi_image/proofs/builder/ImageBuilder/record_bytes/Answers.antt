use Rattle.std.proofs.Common.{ℕ, List, Option, ap, sym, ◌∙◌, slice_get, option_map}
use Rattle.std.specs.Borrow.{Bor}
use Rattle.ipmi_image.specs.Below.{Row, rows_of, Store}
use Rattle.ipmi_image.specs.Prelude.{SavedRow}
use Rattle.ipmi_image.proofs.BuildLemmas.{bytes-chained}
use Rattle.ipmi_image.proofs.builder.ImageBuilder.record_bytes.Goals as goal

abbrev bytes_of : Option SavedRow → Option (List ℕ)
bytes_of o = option_map (λ (row : SavedRow). row.bytes) o

abbrev bytes_at : List Row → ℕ → Option (List ℕ)
bytes_at rows place = option_map (λ (row : Row). row.bytes) (slice_get rows place)

abbrev bytes_under : Option (Bor (List ℕ)) → Option (List ℕ)
bytes_under o = option_map (λ bytes. bytes.now) o

pub returns-in_err-row-clause-bytes : goal.returns-in_err-row-clause-bytes
returns-in_err-row-clause-bytes c =
    ap bytes_under c.from_residual.ensures ∙ (ap bytes_of c.in_err-row.ensures.row ∙ sym (bytes-chained c.rows.result.now c.args.place) ∙ ap (λ (l : List Row). bytes_at l c.args.place) c.rows.ensures ∙ ap (λ (s : Store). bytes_at (rows_of c.args.shelf s) c.args.place) c.self.view_is)

pub returns-clause-bytes : goal.returns-clause-bytes
returns-clause-bytes c =
    ap bytes_of c.in_ok-row.ensures.row ∙ sym (bytes-chained c.rows.result.now c.args.place) ∙ ap (λ (l : List Row). bytes_at l c.args.place) c.rows.ensures ∙ ap (λ (s : Store). bytes_at (rows_of c.args.shelf s) c.args.place) c.self.view_is
