use Rattle.std.proofs.Common.{◌≡◌, ◌∙◌, arith, pos, w64}
use Rattle.std.proofs.lemmas.Int.{to_z_pos}
use Rattle.std.proofs.lemmas.Result.{IfOk-at_ok}
use Rattle.jiff.specs.Words.{epoch_day}
use Rattle.jiff.proofs.SpanFacts.{signed_arith}
use Rattle.ipmi_text.proofs.TimeLemmas.{year_is}
use Rattle.ipmi_text.proofs.times.date_of_day.Goals as goal

pub unwrap-requires : goal.unwrap-requires
unwrap-requires c =
    let fits = to_z_pos w64 c.args.day (omega arith) in
    c.from_unix_epoch_day.ensures.succeeds.1 (rw (c.from.ensures, fits) (omega (arith, signed_arith), omega (arith, signed_arith)))

pub returns : goal.returns
returns c =
    let fits = to_z_pos w64 c.args.day (omega arith) in
    let day : epoch_day c.unwrap.result ≡ pos c.args.day =
    IfOk-at_ok _ c.unwrap.ensures c.from_unix_epoch_day.ensures.value ∙ rw c.from.ensures fits in
    record { day = day; year = year_is c.unwrap.result c.args.day day }
