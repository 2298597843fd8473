use Rattle.std.proofs.Common.{◌++◌, append-nil, ap, codes, List, ℕ}
use Rattle.ipmi_output.specs.Failure.{escaped_name}
use Rattle.serdimko.proofs.CapturedLemmas.{said}
use Rattle.serdimko.proofs.capture.say_lost.Goals as goal

pub returns : goal.returns
returns g c = said c.write_message.result _ _
    (ap (λ (line : List ℕ). codes "no reply from " ++ (escaped_name c.args.name.now ++ (codes ": " ++ line))) (append-nil (escaped_name c.args.line.now)))
    c.write_message.ensures
