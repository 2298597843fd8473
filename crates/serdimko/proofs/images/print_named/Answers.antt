use Rattle.std.proofs.Common.{◌∙◌, inr}
use Rattle.serdimko.proofs.images.print_named.Goals as goal

pub returns : goal.returns
returns g c =
    let name = c.input_name-name.ensures in
    inr (
      c.report-report-2.result,
      c.read_input-input.result,
      record {
        labels = c.as_slice.result;
        labels_are = rw (c.as_slice.ensures.value, ← name) (rw (c.image_label-image.ensures, c.labels.ensures) at c.in-Ok.ensures);
        wording = c.report-report-2.ensures.wording;
        nothing_lacks = c.report-report-2.ensures.nothing_lacks;
        strict = c.report-report-2.ensures.strict;
        name_is = c.report-report-2.ensures.name ∙ name;
        input = c.report-report-2.ensures.input;
      },
      c.print_input.ensures,
    )
