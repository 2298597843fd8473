use Rattle.std.proofs.Common.{refl}
use Rattle.serdimko.proofs.capture.write_to.Goals as goal

pub returns-in-Some : goal.returns-in-Some
returns-in-Some g c = rw c.in-Some.is (refl, rw c.as_str.ensures at c.write_text.ensures)
