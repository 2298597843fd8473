use Rattle.std.proofs.Common.{◌++◌, append-nil, ap, codes, inl, inr, refl}
use Rattle.ipmi_output.specs.Failure.{escaped_name}
use Rattle.serdimko.proofs.CapturedLemmas.{said}
use Rattle.serdimko.proofs.capture.write_text.Goals as goal

pub returns-then-is_err : goal.returns-then-is_err
returns-then-is_err g c =
    inr (inl (refl, said c.write_message-then-is_err.result _ _ (ap (◌++◌ (codes "cannot write ")) (append-nil (escaped_name c.args.name.now))) c.write_message-then-is_err.ensures))
