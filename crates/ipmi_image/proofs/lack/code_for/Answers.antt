use Rattle.std.proofs.Common.{◌≡◌, true, IfSome, Option, option_map, subst, sym}
use Rattle.ipmi_image.specs.Prelude.{Lack, may_refuse}
use Rattle.ipmi_image.proofs.SnapshotLemmas.{code_refuses}
use Rattle.ipmi_image.proofs.lack.code_for.Goals as goal

pub returns-clause-refuses : goal.returns-clause-refuses
returns-clause-refuses c =
    subst (λ (found : Option Lack). IfSome (option_map (λ (lack : Lack). lack.code) found) (λ code. may_refuse code ≡ true))
    (sym c.in_ok-lack.ensures) (code_refuses c.args.asked c.args.lacks.now)
