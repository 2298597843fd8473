use Rattle.std.proofs.Common.{ap, ◌∙◌}
use Rattle.ipmi_image.specs.Prelude.{LineCause, pieces, row_line, said, with_three}
use Rattle.ipmi_image.proofs.LineLemmas.{row_has_three}
use Rattle.ipmi_image.proofs.image_line.parse_row.Goals as goal

pub returns-in-Ok : goal.returns-in-Ok
returns-in-Ok c =
    ap (λ fields. with_three LineCause.RowFields (row_line c.args.version c.args.shelf) (pieces 32 fields)) c.in-Some.ensures
    ∙ row_has_three c.args.version c.args.shelf c.in-Some.id.now c.in-Some.next.now c.in-Some.hex.now (said c.read_row.new.bytes.items c.in-Ok.line) c.in-Ok.ensures
