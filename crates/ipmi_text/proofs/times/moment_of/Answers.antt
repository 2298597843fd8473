use Rattle.std.proofs.Common.{arith, refl, w16}
use Rattle.std.proofs.lemmas.Int.{to_z-of_z}
use Rattle.jiff.proofs.SpanFacts.{signed_arith}
use Rattle.ipmi_text.proofs.TimeLemmas.{date_digits}
use Rattle.ipmi_text.proofs.times.moment_of.Goals as goal

pub returns : goal.returns
returns c =
    let date = c.date_of_day-date.result in record {
      date = date;
      day_is = c.date_of_day-date.ensures.day;
      text_is = rw (
        date_digits date c.date_of_day-date.ensures.year,
        c.two_digits.ensures,
        c.two_digits-2.ensures,
        c.two_digits-3.ensures,
        c.two_digits-4.ensures,
        c.two_digits-5.ensures,
        c.two_digits-6.ensures,
        c.two_digits-7.ensures,
        c.from-year.ensures,
        c.from.ensures,
        c.from-2.ensures,
        c.unsigned_abs.ensures.value,
        to_z-of_z w16 date.year (grind (arith, signed_arith, date.year_in)),
      ) refl;
    }
