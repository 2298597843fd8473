use Rattle.std.proofs.Common.{[], ◌∷◌, ap, refl}
use Rattle.ipmi_capture.specs.Below.{info_of}
use Rattle.ipmi_capture.specs.Left.{LacksInfo}
use Rattle.ipmi_capture.specs.declared.left.Left.{Left}
use Rattle.ipmi_capture.specs.declared.left.Unread.{Unread}
use Rattle.ipmi_capture.proofs.CountLemmas.{is_state}
use Rattle.ipmi_capture.proofs.ReadLemmas.{left_value, left_while}
use Rattle.ipmi_capture.proofs.values.capture_info.Goals as goal

pub returns-in-Err-clause-meanwhile : goal.returns-in-Err-clause-meanwhile
returns-in-Err-clause-meanwhile g c = λ h.
    left_while (g.C.Controller.seen c.args.ctl.now) (g.C.Controller.seen c.read_info.new.ctl) (info_of c.args.shelf) (LacksInfo c.args.shelf) (Left.Info c.args.shelf c.of.result) _ c.requires.none refl

pub returns-in-Err-clause-honest : goal.returns-in-Err-clause-honest
returns-in-Err-clause-honest g c = λ h.
    left_value (info_of c.args.shelf) (LacksInfo c.args.shelf) c.in-Err.ended
    (Left.Info c.args.shelf c.of.result) _ (is_state g.C.Controller.seen c.args.ctl.now)
    (is_state g.C.Controller.seen c.read_info.new.ctl) c.requires.none refl (ap (λ (u : Unread). u ∷ []) c.of.ensures) (c.in-Err.ensures.honest h)
