use Rattle.std.proofs.Common.{◌∙◌, inl, inr, refl}
use Rattle.serdimko.specs.Out.{out_of}
use Rattle.serdimko.proofs.live.print_live.Goals as goal

pub returns-in_default-clause-prints : goal.returns-in_default-clause-prints
returns-in_default-clause-prints g c =
    inl (refl, rw (c.report-report.ensures.name, c.report-report.ensures.input, c.name_of-is_unknown.ensures.name, c.name_of-is_unknown.ensures.unknown) at c.tell.ensures)

pub returns-clause-prints : goal.returns-clause-prints
returns-clause-prints g c =
    inr (
      c.report-report-2.result,
      record {
        labels = c.as_slice.result;
        labels_are = rw c.as_slice.ensures.value (rw c.labels.ensures at c.in-Ok.ensures);
        wording = c.report-report-2.ensures.wording;
        nothing_lacks = c.report-report-2.ensures.nothing_lacks;
        strict = c.report-report-2.ensures.strict;
        name_is = c.report-report-2.ensures.name ∙ c.name_of-is_unknown.ensures.name;
        input = c.report-report-2.ensures.input ∙ c.name_of-is_unknown.ensures.unknown;
      },
      (
        c.retrying_parts-limits.result,
        c.retrying_parts-limits.ensures.part,
        c.retrying_parts-limits.ensures.tries,
        out_of c.print_columns-error.new.out,
        c.print_columns-error.result,
        c.print_columns-error.ensures,
        c.print_unless-outcome.ensures,
      ),
    )
