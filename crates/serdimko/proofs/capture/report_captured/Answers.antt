use Rattle.std.proofs.Common.{refl}
use Rattle.serdimko.proofs.CapturedLemmas.{captured, none_lost, not_lost}
use Rattle.serdimko.proofs.capture.report_captured.Goals as goal

pub returns-in-Some : goal.returns-in-Some
returns-in-Some g c = rw c.in-Some.is (refl, refl, rw (c.as_str.ensures.value, c.in_ok-line.ensures, c.name_of-is_unknown.ensures.name) at c.say_lost.ensures)

pub returns : goal.returns
returns g c = captured c.write_captured.result c.write_captured.ensures.saves (λ status saves.
    not_lost _ _ _ (none_lost _ c.args.lost _ refl c.in_default.not-Some)
    (_, rw (c.as_slice.ensures.value, c.name_of-is_unknown.ensures.name, c.name_of-is_unknown.ensures.unknown) at c.in_ok-say_left.ensures, saves))
