use Rattle.std.proofs.Common.{◌∙◌, refl}
use Rattle.std.proofs.lemmas.Result.{IfOk-weaker}
use Rattle.ipmi_text.proofs.TimeLemmas.{day_of_minute, first_characters, minute_of_minute, year_is}
use Rattle.ipmi_text.proofs.times.text_to_minute.Goals as goal

pub returns : goal.returns
returns c =
    let moment = c.moment_of-moment.ensures in
    let year = year_is moment.date _ moment.day_is in
    IfOk-weaker c.from_str.result _ _ (λ text is. record {
      date = moment.date;
      day_is = rw (day_of_minute c.args.minutes) at moment.day_is;
      text_is = is ∙ (c.range.ensures.value ∙ rw (c.as_str.ensures, moment.text_is, first_characters moment.date _ year, minute_of_minute c.args.minutes) refl);
    })
    c.from_str.ensures.ok
